use Rattle.goal_syntax.proofs.Judging.TermsLeftLaws.{judged_step, judged_smaller}
use Rattle.goal_syntax.proofs.judge_term.judge_term.Goals as goal

pub loop-next-smaller : goal.loop-next-smaller
loop-next-smaller c = judged_smaller _ _ _ _ _ _ c.in-Some.ensures.items c.parse_task-step.ensures.smaller c.in_ok-wait_for.ensures.size

pub loop-next-preserved : goal.loop-next-preserved
loop-next-preserved c =
    judged_step _ _ _ _ _ _ c.parse_task-step.result _ _ c.wait_for.new.waiting.items _ c.in-Some.ensures.items c.parse_task-step.ensures.form c.in_ok-judge_step.ensures c.in_ok-wait_for.ensures.uses c.loop-next.invariant
