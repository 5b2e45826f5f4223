use Rattle.std.proofs.Common.{refl}
use Rattle.goal_syntax.proofs.Judging.GoalsLeftLaws.{first_parts}
use Rattle.goal_forms.specs.Parts.{sites}
use Rattle.goal_syntax.proofs.judge_goal.wait_for_goals.Goals as goal

pub returns-in_ok-push-2-clause-parts : goal.returns-in_ok-push-2-clause-parts
returns-in_ok-push-2-clause-parts c =
    first_parts (sites c.args.context.now.flat.now) c.args.place c.in-Some.first c.in-Some.rest c.args.waiting.now.items _ _ _ _ c.in-Some.ensures.parts c.in_ok-push.ensures.items c.in_ok-push-2.ensures.items refl refl
