use Rattle.kan_solving.proofs.SolvingLaws.{finish_step}
use Rattle.kan_solving.proofs.solving.finish.Goals as goal

pub loop-last-preserved : goal.loop-last-preserved
loop-last-preserved c = finish_step _ _ _ _ _ _ c.in-Some.ensures.items c.in_ok-answer.ensures c.loop-last.invariant
