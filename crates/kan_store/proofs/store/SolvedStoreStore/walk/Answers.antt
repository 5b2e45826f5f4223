use Rattle.std.specs.Arc.{arc_value}
use Rattle.kan_terms.specs.Terms.{tree}
use Rattle.kan_store.specs.Meaning.{parts_of, store_of}
use Rattle.kan_store.proofs.Observing.{no_cycle_known}
use Rattle.kan_store.proofs.StoreLaws.{shown_known, walk_told}
use Rattle.kan_store.specs.SolvedStores.{store_in}
use Rattle.kan_store.proofs.store.SolvedStoreStore.walk.Goals as goal

pub walk-requires : goal.walk-requires
walk-requires g c = no_cycle_known (parts_of g.B.Bindings.pairs c.deref.result.now.solved) (store_of (arc_value c.args.self.now.held))
    (shown_known g.B.Bindings.pairs c.deref.result.now (arc_value c.args.self.now.held) c.deref.ensures c.args.self.now.in_step)

pub returns : goal.returns
returns g c = walk_told (parts_of g.B.Bindings.pairs c.deref.result.now.solved) (store_of (arc_value c.args.self.now.held))
    (shown_known g.B.Bindings.pairs c.deref.result.now (arc_value c.args.self.now.held) c.deref.ensures c.args.self.now.in_step) (tree c.args.term.now) (tree c.walk.result.now) c.walk.ensures
