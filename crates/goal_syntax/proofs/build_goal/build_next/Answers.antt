use Rattle.std.proofs.Common.{arith}
use Rattle.std.proofs.Common.{ap}
use Rattle.goal_syntax.proofs.Building.WidthLaws.{freshened_width, joined_width, suspended_width}
use Rattle.goal_syntax.specs.Building.Widths.{made_width}
use Rattle.kan_model.specs.Programs.Drafts.{tables}
use Rattle.goal_syntax.specs.Building.GoalsBuilt.{stack_goals}
use Rattle.goal_syntax.proofs.build_goal.build_next.Goals as goal

pub returns-in_ok-join_two-in-Join-clause-wide : goal.returns-in_ok-join_two-in-Join-clause-wide
returns-in_ok-join_two-in-Join-clause-wide c =
    omega (arith, ap made_width c.in_ok-join_two-in-Join.ensures.made, joined_width c.in-Join.row (stack_goals (tables c.args.draft.now) c.args.places.now.items))

pub returns-in_ok-add_slots-in-Fresh-clause-wide : goal.returns-in_ok-add_slots-in-Fresh-clause-wide
returns-in_ok-add_slots-in-Fresh-clause-wide c =
    rw c.in-Fresh.is (omega (arith, ap made_width c.in_ok-add_slots-in-Fresh.ensures.made, freshened_width c.in-Fresh.count (stack_goals (tables c.args.draft.now) c.args.places.now.items)))

pub returns-in_ok-suspend-in-Suspend-clause-wide : goal.returns-in_ok-suspend-in-Suspend-clause-wide
returns-in_ok-suspend-in-Suspend-clause-wide c =
    omega (arith, ap made_width c.in_ok-suspend-in-Suspend.ensures.made, suspended_width c.args.context.now.dialect (stack_goals (tables c.args.draft.now) c.args.places.now.items))
