use Rattle.std.proofs.Common.{ap}
use Rattle.kan_terms.specs.Terms.{tree}
use Rattle.unify_core.specs.LentBindings.{with_lent}
use Rattle.unify_core.proofs.Steps.WalkSteps.{way_falls, walk_keeps, walk_ends, walk_stops}
use Rattle.unify_core.proofs.walking.walk_on.Goals as goal

pub loop-reached-smaller : goal.loop-reached-smaller
loop-reached-smaller g c = way_falls _ c.requires _ _ c.in-Var.var (ap tree c.in-Var.is) c.in-Some.ensures

pub loop-reached-preserved : goal.loop-reached-preserved
loop-reached-preserved g c = walk_keeps _ c.requires _ _ c.in-Var.var _ (ap tree c.in-Var.is) c.in-Some.ensures c.loop-reached.invariant

pub returns-in-None : goal.returns-in-None
returns-in-None g c =
    walk_ends (with_lent c.args.lent.now (g.B.Bindings.pairs c.args.bindings.now)) _ c.in-Var.var _ (ap tree c.in-Var.is) c.in-None.ensures c.loop-reached.invariant

pub returns : goal.returns
returns g c =
    walk_stops (with_lent c.args.lent.now (g.B.Bindings.pairs c.args.bindings.now)) c.loop-reached.reached.now _ c.in_default.not-Var c.loop-reached.invariant
