use Rattle.std.specs.Arc.{arc_value}
use Rattle.std.proofs.lemmas.Result.{IfOk-weaker}
use Rattle.kan_store.specs.Meaning.{parts_of, store_of}
use Rattle.kan_store.proofs.Observing.{tags_known}
use Rattle.kan_store.proofs.StoreLaws.{shown_known}
use Rattle.kan_store.specs.SolvedStores.{store_in}
use Rattle.kan_store.proofs.store.SolvedStoreStore.tags.Goals as goal

pub returns : goal.returns
returns g c = IfOk-weaker c.of.result _ _ (tags_known (parts_of g.B.Bindings.pairs c.deref.result.now.solved) (store_of (arc_value c.args.self.now.held))
    (shown_known g.B.Bindings.pairs c.deref.result.now (arc_value c.args.self.now.held) c.deref.ensures c.args.self.now.in_step) c.args.var c.requires) c.of.ensures
