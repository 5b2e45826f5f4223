use Rattle.kan_model.specs.Programs.Drafts.{tables}
use Rattle.goal_syntax.proofs.Building.TableLaws.{grows_on}
use Rattle.goal_syntax.proofs.Building.FormsBuiltLaws.{goals_there}
use Rattle.goal_forms.specs.Parts.{sites}
use Rattle.goal_syntax.proofs.Building.CallsThereLaws.{joined_closed}
use Rattle.std.proofs.Common.{arith}
use Rattle.goal_syntax.proofs.Building.WidthLaws.{behind_wide, list_wide}
use Rattle.goal_forms.specs.RelationTables.{relations}
use Rattle.goal_forms.specs.Parts.{site_at}
use Rattle.kan_grammar.specs.Texts.GoalForms.{goal_forms}
use Rattle.goal_syntax.proofs.build_run.build_behind.Goals as goal

pub add_goal-requires-clause-there : goal.add_goal-requires-clause-there
add_goal-requires-clause-there c = goals_there (tables c.args.draft.now) (tables c.build_goals.new.draft) _ _ _ c.requires.there c.in_ok-rest.ensures.grows c.in_ok-rest.ensures.made

pub returns-clause-grows : goal.returns-clause-grows
returns-clause-grows c = grows_on _ _ _ c.in_ok-rest.ensures.grows c.in_ok-both.ensures.grows

pub returns-clause-closed : goal.returns-clause-closed
returns-clause-closed c =
    joined_closed (sites c.args.context.now.flat.now) (tables c.args.draft.now) (tables c.build_goals.new.draft) (tables c.add_goal.new.draft) _
    c.in_ok-rest.ensures.low c.in_ok-rest.ensures.called c.in_ok-both.ensures.terms c.in_ok-both.ensures.called

pub returns-clause-narrow : goal.returns-clause-narrow
returns-clause-narrow c =
    omega (
      arith,
      behind_wide (tables c.args.draft.now) (tables c.build_goals.new.draft) c.args.first _ _ c.requires.there c.in_ok-rest.ensures.grows c.in_ok-rest.ensures.made,
      list_wide c.args.context.now.dialect (relations c.args.context.now.relations.now) c.args.scope.items (goal_forms c.args.context.now.names.now (site_at (sites c.args.context.now.flat.now) c.args.goals)),
      c.in_ok-rest.ensures.narrow,
      c.in_ok-both.ensures.narrow,
    )
