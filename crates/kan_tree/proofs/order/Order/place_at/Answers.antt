use Rattle.std.proofs.Common.{rules, ◌<◌, ◌∙◌, subst}
use Rattle.std.proofs.lemmas.List.{get_or_default}
use Rattle.kan_tree.proofs.OrderLaws.{inverse_small}
use Rattle.kan_tree.proofs.order.Order.place_at.Goals as goal

pub returns-clause-small : goal.returns-clause-small
returns-clause-small c = subst (λ i. i < 16) (get_or_default c.args.self.now.places c.args.index 16 0 (search rules) ∙ search rules) (inverse_small c.args.self.now.indices c.args.self.now.places c.args.index (search rules) c.args.self.now.by_index c.requires)
