use Rattle.goal_forms.specs.Parts.{sites}
use Rattle.goal_syntax.proofs.Building.GoalsLeftLaws.{clause_falls}
use Rattle.std.proofs.Common.{sym}
use Rattle.kan_model.specs.Programs.Drafts.{tables}
use Rattle.goal_syntax.specs.Building.GoalsBuilt.{stack_goals}
use Rattle.goal_forms.specs.RelationTables.{relations}
use Rattle.goal_syntax.proofs.Building.GoalsLeftLaws.{clause_fails}
use Rattle.std.proofs.Common.{arith}
use Rattle.goal_syntax.proofs.Building.EntryLaws.{one_pushed, other_clause, proper_clause}
use Rattle.goal_forms.specs.Parts.{site_at}
use Rattle.goal_syntax.specs.declared.join_goal.Row.TheVariants as rows
use Rattle.goal_syntax.specs.declared.build_goal.Work.TheVariants as works
use Rattle.std.proofs.Common.{ap}
use Rattle.goal_syntax.proofs.Building.WidthLaws.{clause_wide, one_widens}
use Rattle.goal_syntax.specs.Building.Widths.{made_width}
use Rattle.goal_syntax.proofs.build_goal.build_clause.Goals as goal

pub returns-in_ok-push-clause-falls : goal.returns-in_ok-push-clause-falls
returns-in_ok-push-clause-falls c = clause_falls (sites c.args.context.now.flat.now) c.args.clause c.args.works.now.items _ c.in_ok-push.ensures.items

pub returns-in_ok-make-clause-made : goal.returns-in_ok-make-clause-made
returns-in_ok-make-clause-made c = λ ns.
    clause_fails c.args.context.now.dialect (relations c.args.context.now.relations.now) c.args.context.now.names.now (sites c.args.context.now.flat.now) ns c.args.clause c.args.works.now.items
    (stack_goals (tables c.args.draft.now) c.args.places.now.items) _ (sym c.if-is_proper.ensures) c.in_ok-make.ensures.made

pub returns-in_ok-push-clause-room : goal.returns-in_ok-push-clause-room
returns-in_ok-push-clause-room c =
    omega (
      arith,
      proper_clause c.args.context.now.names.now (site_at (sites c.args.context.now.flat.now) c.args.clause) c.if-is_proper.ensures,
      one_pushed c.args.context.now.names.now (sites c.args.context.now.flat.now) c.args.works.now.items _ (works.Row rows.All c.args.clause) c.in_ok-push.ensures.items,
    )

pub returns-in_ok-push-clause-few : goal.returns-in_ok-push-clause-few
returns-in_ok-push-clause-few c =
    omega (
      arith,
      proper_clause c.args.context.now.names.now (site_at (sites c.args.context.now.flat.now) c.args.clause) c.if-is_proper.ensures,
      one_pushed c.args.context.now.names.now (sites c.args.context.now.flat.now) c.args.works.now.items _ (works.Row rows.All c.args.clause) c.in_ok-push.ensures.items,
    )

pub make-requires-clause-room : goal.make-requires-clause-room
make-requires-clause-room c = omega (arith, other_clause c.args.context.now.names.now (site_at (sites c.args.context.now.flat.now) c.args.clause) c.if-is_proper.ensures, c.requires.room)

pub returns-in_ok-make-clause-room : goal.returns-in_ok-make-clause-room
returns-in_ok-make-clause-room c = omega (arith, other_clause c.args.context.now.names.now (site_at (sites c.args.context.now.flat.now) c.args.clause) c.if-is_proper.ensures, c.in_ok-make.ensures.room)

pub returns-in_ok-push-clause-wide : goal.returns-in_ok-push-clause-wide
returns-in_ok-push-clause-wide c =
    omega (
      arith,
      clause_wide c.args.context.now.names.now (site_at (sites c.args.context.now.flat.now) c.args.clause) c.if-is_proper.ensures,
      one_widens c.args.context.now.names.now (sites c.args.context.now.flat.now) c.args.works.now.items _ (works.Row rows.All c.args.clause) c.in_ok-push.ensures.items,
    )

pub returns-in_ok-make-clause-wide : goal.returns-in_ok-make-clause-wide
returns-in_ok-make-clause-wide c = omega (arith, ap made_width c.in_ok-make.ensures.made)
