use Rattle.std.proofs.Common.{rules}
use Rattle.kan_tree.proofs.OrderLaws.{brought_inverse, brought_rest, brought_from}
use Rattle.kan_tree.proofs.order.Order.bring.Goals as goal

pub invariant_of-self-clause-by_place : goal.invariant_of-self-clause-by_place
invariant_of-self-clause-by_place c = brought_inverse c.args.self.now.indices c.args.self.now.places c.args.place c.args.index c.index_of-left.result c.place_at-other.result (search rules) (search rules) c.args.self.now.by_place c.args.self.now.by_index c.requires.place c.requires.index c.index_of-left.ensures.index c.place_at-other.ensures.place

pub invariant_of-self-clause-by_index : goal.invariant_of-self-clause-by_index
invariant_of-self-clause-by_index c = brought_inverse c.args.self.now.places c.args.self.now.indices c.args.index c.args.place c.place_at-other.result c.index_of-left.result (search rules) (search rules) c.args.self.now.by_index c.args.self.now.by_place c.requires.index c.requires.place c.place_at-other.ensures.place c.index_of-left.ensures.index

pub returns-clause-exchanged : goal.returns-clause-exchanged
returns-clause-exchanged c = brought_from c.args.self.now.indices c.args.self.now.places c.args.place c.args.index c.index_of-left.result c.place_at-other.result (search rules) (search rules) c.args.self.now.by_place c.args.self.now.by_index c.requires.place c.requires.index c.index_of-left.ensures.index c.place_at-other.ensures.place

pub returns-clause-others : goal.returns-clause-others
returns-clause-others c = brought_rest c.args.self.now.indices c.args.self.now.places c.args.place c.args.index c.index_of-left.result c.place_at-other.result (search rules) (search rules) c.args.self.now.by_place c.args.self.now.by_index c.requires.place c.requires.index c.index_of-left.ensures.index c.place_at-other.ensures.place
