use Rattle.std.proofs.Common.{arith, ap, length, rules, ◌∙◌}
use Rattle.std.proofs.lemmas.Bool.{lt-ltb}
use Rattle.kan_model.specs.Programs.Drafts.{tables}
use Rattle.kan_model.specs.Programs.Scope.{width}
use Rattle.kan_grammar.specs.Texts.GoalForms.{goal_forms}
use Rattle.kan_grammar.specs.Texts.Resolved.{within}
use Rattle.goal_forms.specs.Parts.{sites, site_at}
use Rattle.goal_forms.specs.RelationTables.{relations}
use Rattle.goal_syntax.specs.Building.FormsBuilt.{asked_equation}
use Rattle.goal_syntax.proofs.Building.CallsThereLaws.{run_closed}
use Rattle.goal_syntax.proofs.Building.TableLaws.{grows_on}
use Rattle.goal_syntax.proofs.Building.WidthLaws.{fresh_wide, goal_behind_wide}
use Rattle.goal_syntax.proofs.build_run.build_fresh.Goals as goal

pub add_goal-requires-clause-there : goal.add_goal-requires-clause-there
add_goal-requires-clause-there c = lt-ltb _ (length (tables c.build_behind.new.draft).goals) (c.in_ok-goal.ensures.made _ c.in_ok-first.ensures.made).there

pub returns : goal.returns
returns c = record {
  made = search rules;
  grows = grows_on _ _ _ c.in_ok-first.ensures.grows (grows_on _ _ _ c.in_ok-goal.ensures.grows c.in_ok-fresh.ensures.grows);
  room = search rules;
  closed =
      let context = c.args.context.now in
      run_closed c.args.context.now.dialect (sites context.flat.now) context.names.now c.args.binder (relations context.relations.now) (goal_forms context.names.now (site_at (sites context.flat.now) c.args.goals))
      c.in_ok-bound.bound.items c.in_ok-scope.scope.items _ (tables c.args.draft.now) (tables c.build_equation.new.draft) (tables c.build_behind.new.draft) (tables c.add_goal.new.draft)
      c.in_ok-scope.ensures (c.in_ok-enter.ensures ∙ ap (within c.in_ok-scope.scope.items) c.deref.ensures.value) (c.in_ok-bound.ensures.names context.names.now)
      (rw c.deref-2.ensures.value at c.in_ok-first.ensures.low) c.in_ok-first.ensures.called c.in_ok-goal.ensures.closed c.in_ok-fresh.ensures.terms c.in_ok-fresh.ensures.called;
  narrow =
      omega (
        arith,
        ap width c.in_ok-first.ensures.made.is,
        fresh_wide (tables c.build_behind.new.draft) c.len-count.result _ _ (c.in_ok-goal.ensures.made _ c.in_ok-first.ensures.made),
        goal_behind_wide c.args.context.now.dialect (relations c.args.context.now.relations.now) c.enter.new.scope.items (asked_equation c.deref-2.result.now) (goal_forms c.args.context.now.names.now (site_at (sites c.args.context.now.flat.now) c.args.goals)),
        ap length (c.in_ok-bound.ensures.names c.args.context.now.names.now),
        c.len-count.ensures,
        c.in_ok-first.ensures.narrow,
        c.in_ok-goal.ensures.narrow,
        c.in_ok-fresh.ensures.narrow,
      );
  named = search rules;
}
