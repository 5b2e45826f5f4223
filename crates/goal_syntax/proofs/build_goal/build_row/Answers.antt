use Rattle.goal_forms.specs.Parts.{sites}
use Rattle.goal_forms.specs.RelationTables.{relations}
use Rattle.goal_syntax.proofs.Building.GoalsLeftLaws.{row_waits, row_falls}
use Rattle.std.proofs.Common.{[], ◌∙◌, ap}
use Rattle.kan_model.specs.Programs.Drafts.{tables}
use Rattle.goal_syntax.specs.Building.GoalsBuilt.{stack_goals, with_entry}
use Rattle.goal_syntax.specs.Building.GoalsLeft.{empty_entry, row_goal}
use Rattle.goal_syntax.proofs.Building.GoalsBuiltLaws.{stands_added, empty_stands}
use Rattle.goal_syntax.proofs.Building.GoalsLeftLaws.{empty_row}
use Rattle.std.proofs.Common.{arith}
use Rattle.goal_syntax.proofs.Building.EntryLaws.{empty_entries, row_entries}
use Rattle.std.proofs.Common.{ap}
use Rattle.goal_syntax.proofs.Building.WidthLaws.{empty_wide, row_wide}
use Rattle.goal_syntax.specs.Building.Widths.{made_width}
use Rattle.goal_syntax.proofs.Building.NamedLaws.{empty_named}
use Rattle.goal_syntax.proofs.build_goal.build_row.Goals as goal

pub returns-in_ok-push-clause-made : goal.returns-in_ok-push-clause-made
returns-in_ok-push-clause-made c = λ ns.
    row_waits c.args.context.now.dialect (relations c.args.context.now.relations.now) c.args.context.now.names.now (sites c.args.context.now.flat.now) ns c.args.row c.args.place c.in-Some.first c.in-Some.rest c.args.works.now.items _ _ _ _
    c.in-Some.ensures.parts c.in_ok-wait_for_others.ensures c.first_work.ensures c.in_ok-push.ensures.items

pub returns-in_ok-push-clause-falls : goal.returns-in_ok-push-clause-falls
returns-in_ok-push-clause-falls c =
    row_falls (sites c.args.context.now.flat.now) c.args.row c.args.place c.in-Some.first c.in-Some.rest c.args.works.now.items _ _ _
    c.in-Some.ensures.parts c.in_ok-wait_for_others.ensures c.first_work.ensures c.in_ok-push.ensures.items

pub returns-in_ok-make-clause-made : goal.returns-in_ok-make-clause-made
returns-in_ok-make-clause-made c = λ ns.
    let ts = tables c.args.draft.now in
    let before = stack_goals ts c.args.places.now.items in
    empty_row c.args.context.now.dialect (relations c.args.context.now.relations.now) c.args.context.now.names.now (sites c.args.context.now.flat.now) ns c.args.row c.args.place c.args.works.now.items before _ c.in_default.ensures.parts
    (c.in_ok-make.ensures.made ∙ ap (λ e. with_entry ts e before) c.empty.ensures ∙ stands_added ts (empty_entry c.args.row) (row_goal c.args.row []) before (empty_stands ts c.args.row))

pub returns-in_ok-push-clause-room : goal.returns-in_ok-push-clause-room
returns-in_ok-push-clause-room c =
    let few = row_entries c.args.context.now.names.now (sites c.args.context.now.flat.now) c.args.row c.args.place c.in-Some.first c.in-Some.rest _ c.args.works.now.items _ _
    c.in-Some.ensures.parts c.in_ok-wait_for_others.ensures c.first_work.ensures c.in_ok-push.ensures.items in omega (arith, few)

pub returns-in_ok-push-clause-few : goal.returns-in_ok-push-clause-few
returns-in_ok-push-clause-few c =
    row_entries c.args.context.now.names.now (sites c.args.context.now.flat.now) c.args.row c.args.place c.in-Some.first c.in-Some.rest _ c.args.works.now.items _ _
    c.in-Some.ensures.parts c.in_ok-wait_for_others.ensures c.first_work.ensures c.in_ok-push.ensures.items

pub make-requires-clause-room : goal.make-requires-clause-room
make-requires-clause-room c = omega (arith, empty_entries c.args.context.now.names.now (sites c.args.context.now.flat.now) c.args.row c.args.place c.in_default.ensures.parts, c.requires.room)

pub returns-in_ok-make-clause-room : goal.returns-in_ok-make-clause-room
returns-in_ok-make-clause-room c = omega (arith, empty_entries c.args.context.now.names.now (sites c.args.context.now.flat.now) c.args.row c.args.place c.in_default.ensures.parts, c.in_ok-make.ensures.room)

pub returns-in_ok-push-clause-wide : goal.returns-in_ok-push-clause-wide
returns-in_ok-push-clause-wide c =
    let few = row_wide c.args.context.now.names.now (sites c.args.context.now.flat.now) c.args.row c.args.place c.in-Some.first c.in-Some.rest _ c.args.works.now.items _ _
    c.in-Some.ensures.parts c.in_ok-wait_for_others.ensures c.first_work.ensures c.in_ok-push.ensures.items in omega (arith, few)

pub returns-in_ok-make-clause-wide : goal.returns-in_ok-make-clause-wide
returns-in_ok-make-clause-wide c = omega (arith, ap made_width c.in_ok-make.ensures.made, empty_wide (tables c.args.draft.now) c.args.row _ c.empty.ensures)

pub returns-in_ok-make-clause-named : goal.returns-in_ok-make-clause-named
returns-in_ok-make-clause-named c = omega (arith, empty_named c.args.context.now.names.now c.args.row _ c.empty.ensures, c.in_ok-make.ensures.named c.args.context.now.names.now)
