use Rattle.kan_plain.proofs.PlainLaws.{list_step}
use Rattle.kan_plain.proofs.plain.list_equations.Goals as goal

pub loop-prim-preserved : goal.loop-prim-preserved
loop-prim-preserved c = list_step _ _ c.prim-item.result _ _ c.loop-prim-test.true c.prim-item.is c.loop-prim.invariant c.in_ok-push_equation.ensures
