use Rattle.std.proofs.Common.{refl, ap, ◌++◌}
use Rattle.goal_syntax.proofs.Judging.GoalsLeftLaws.{first_clause, first_parts, bad_clause_parts}
use Rattle.goal_syntax.specs.Judging.FaultLists.{fault_list}
use Rattle.goal_forms.specs.Parts.{sites}
use Rattle.goal_forms.specs.RelationTables.{relations}
use Rattle.goal_syntax.proofs.judge_goal.wait_for_clauses.Goals as goal

pub returns-in_ok-push-2-clause-faults : goal.returns-in_ok-push-2-clause-faults
returns-in_ok-push-2-clause-faults c = λ slots. ap (λ l. fault_list c.args.faults.now.items ++ l)
    (first_clause (relations c.args.context.now.relations.now) c.args.context.now.names.now (sites c.args.context.now.flat.now) slots c.args.place c.in-Some.clause c.in-Some.rest c.args.waiting.now.items _ _
    c.in-Some.ensures.parts c.if-is_proper.ensures c.in_ok-push.ensures.items c.in_ok-push-2.ensures.items)

pub returns-in_ok-push-2-clause-parts : goal.returns-in_ok-push-2-clause-parts
returns-in_ok-push-2-clause-parts c =
    first_parts (sites c.args.context.now.flat.now) c.args.place c.in-Some.clause c.in-Some.rest c.args.waiting.now.items _ _ _ _ c.in-Some.ensures.parts c.in_ok-push.ensures.items c.in_ok-push-2.ensures.items refl refl

pub returns-in_ok-report-clause-parts : goal.returns-in_ok-report-clause-parts
returns-in_ok-report-clause-parts c =
    bad_clause_parts (sites c.args.context.now.flat.now) c.args.place c.in-Some.clause c.in-Some.rest c.args.waiting.now.items _ _ c.in-Some.ensures.parts c.in_ok-push.ensures.items refl
