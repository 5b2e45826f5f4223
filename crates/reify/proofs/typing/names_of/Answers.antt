use Rattle.kan_model.specs.Stores.Kept.{has_type}
use Rattle.kan_model.specs.Stores.Calls.{replacement_of}
use Rattle.reify.proofs.NamingLaws.{names_step}
use Rattle.reify.proofs.typing.names_of.Goals as goal

pub loop-at-preserved : goal.loop-at-preserved
loop-at-preserved g c =
    names_step (has_type c.args.kind (replacement_of (g.St.Store.meaning c.args.store.now)) (g.St.Store.meaning c.args.store.now).prims) c.args.naming.now c.variables-var-items.result.now c.loop-at.at _ _ _ c.has-holds.result
    c.variables-var-items.ensures c.loop-at-test.true c.loop-at.invariant c.has-holds.ensures c.in_ok-add_where.ensures
