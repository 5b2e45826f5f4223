use Rattle.goal_syntax.proofs.Judging.GoalsLeftLaws.{judged_goal, judged_parts}
use Rattle.goal_forms.specs.Parts.{sites}
use Rattle.goal_forms.specs.RelationTables.{relations}
use Rattle.goal_syntax.proofs.judge_goal.judge_goal.Goals as goal

pub returns-clause-faults : goal.returns-clause-faults
returns-clause-faults c =
    judged_goal (relations c.args.context.now.relations.now) c.args.context.now.names.now (sites c.args.context.now.flat.now) _ c.args.scope.now.items _ _ _ _ c.args.waiting.now.items _ c.parse_goal-goal.result _
    c.parse_goal-goal.ensures.form c.deref.ensures.value c.in_ok-judge_own.ensures c.in_ok-wait_for.ensures.faults c.in_ok-wait_for.ensures.scope c.in_ok-wait_for.ensures.waiting

pub returns-clause-parts : goal.returns-clause-parts
returns-clause-parts c = judged_parts (sites c.args.context.now.flat.now) c.args.scope.now.items c.args.waiting.now.items _ c.parse_goal-goal.result _ c.parse_goal-goal.ensures.size c.in_ok-wait_for.ensures.waiting
