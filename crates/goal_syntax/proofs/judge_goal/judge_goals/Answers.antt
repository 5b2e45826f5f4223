use Rattle.goal_syntax.proofs.Judging.GoalsLeftLaws.{next_parts}
use Rattle.goal_forms.specs.Parts.{sites}
use Rattle.goal_syntax.proofs.judge_goal.judge_goals.Goals as goal

pub loop-next-smaller : goal.loop-next-smaller
loop-next-smaller c = next_parts (sites c.args.context.now.flat.now) _ _ _ _ c.in-Some.ensures.items c.in_ok-judge_next.ensures.parts
