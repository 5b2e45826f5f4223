use Rattle.kan_model.specs.Programs.Drafts.{tables}
use Rattle.goal_syntax.proofs.Building.TableLaws.{grows_on}
use Rattle.goal_syntax.proofs.Building.FormsBuiltLaws.{sides_there}
use Rattle.goal_syntax.proofs.Building.CallsThereLaws.{equation_called}
use Rattle.std.proofs.Common.{arith}
use Rattle.goal_syntax.proofs.Building.WidthLaws.{widest_kept}
use Rattle.goal_syntax.proofs.build_run.build_equation.Goals as goal

pub add_goal-requires-clause-there : goal.add_goal-requires-clause-there
add_goal-requires-clause-there c = sides_there (tables c.build_slots.new.draft) (tables c.add_term.new.draft) _ _ _ _ c.in_ok-list.ensures.made c.in_ok-asked.ensures.grows c.in_ok-asked.ensures.made

pub returns-clause-grows : goal.returns-clause-grows
returns-clause-grows c = grows_on _ _ _ c.in_ok-list.ensures.grows (grows_on _ _ _ c.in_ok-asked.ensures.grows c.in_ok-goal.ensures.grows)

pub returns-clause-called : goal.returns-clause-called
returns-clause-called c = λ rows.
    equation_called (tables c.args.draft.now) (tables c.build_slots.new.draft) (tables c.add_term.new.draft) (tables c.add_goal.new.draft) rows
    c.in_ok-list.ensures.same c.in_ok-asked.ensures.same (c.in_ok-goal.ensures.called rows)

pub returns-clause-narrow : goal.returns-clause-narrow
returns-clause-narrow c =
    omega (
      arith,
      widest_kept (tables c.args.draft.now) (tables c.build_slots.new.draft) c.in_ok-list.ensures.grows c.in_ok-list.ensures.same,
      widest_kept (tables c.build_slots.new.draft) (tables c.add_term.new.draft) c.in_ok-asked.ensures.grows c.in_ok-asked.ensures.same,
      c.in_ok-goal.ensures.narrow,
    )
