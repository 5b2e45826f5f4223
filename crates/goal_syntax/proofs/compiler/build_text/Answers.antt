use Rattle.std.proofs.Common.{arith}
use Rattle.std.proofs.lemmas.List.{take_all}
use Rattle.kan_model.specs.Programs.Drafts.{tables}
use Rattle.goal_forms.specs.Parts.{sites}
use Rattle.goal_forms.specs.RelationTables.{relations}
use Rattle.goal_syntax.proofs.Compiling.CompilingLaws.{names_next, text_means}
use Rattle.goal_syntax.proofs.Building.CallsThereLaws.{text_closed}
use Rattle.goal_syntax.proofs.Building.FormEntryLaws.{forms_front, forms_next}
use Rattle.std.proofs.Common.{ap, ◌+◌}
use Rattle.goal_syntax.specs.Building.Entries.{form_size}
use Rattle.goal_syntax.proofs.Building.FormWidthLaws.{widest_front, widest_next}
use Rattle.goal_syntax.specs.Building.Widths.{form_width}
use Rattle.goal_syntax.proofs.compiler.build_text.Goals as goal

pub loop-place-preserved : goal.loop-place-preserved
loop-place-preserved c =
    let t = c.args.context.now.names.now in
    let ds = sites c.args.context.now.flat.now in
    let rules = relations c.args.context.now.relations.now in
    record {
      means = text_means c.args.context.now.dialect t rules ds c.args.forms.now c.loop-place.place-index (tables c.args.draft.now) (tables c.loop-place.draft) (tables c.build_form.new.draft) c.args.queries.now c.loop-place.queries c.build_form.new.queries (omega arith)
          c.loop-place.invariant.means (rw c.parse_form.ensures at c.in_ok-build_form.ensures.means);
      names = names_next t ds c.args.forms.now c.loop-place.place-index (tables c.args.draft.now) (tables c.loop-place.draft) (tables c.build_form.new.draft) (omega arith) c.loop-place.invariant.names (rw c.parse_form.ensures at c.in_ok-build_form.ensures.names);
      named = omega (arith, c.in_ok-build_form.ensures.named, c.loop-place.invariant.named);
      room = omega (arith, forms_next t ds c.args.forms.now c.loop-place.place-index c.loop-place-test.true, c.in_ok-build_form.ensures.room, c.loop-place.invariant.room, ap (form_size) c.parse_form.ensures);
      narrow = omega (arith, widest_next t ds c.args.forms.now c.loop-place.place-index c.loop-place-test.true, c.in_ok-build_form.ensures.narrow, c.loop-place.invariant.narrow, ap form_width c.parse_form.ensures);
      closed = text_closed c.args.context.now.dialect t rules ds c.args.forms.now c.loop-place.place-index (tables c.args.draft.now) (tables c.loop-place.draft) (tables c.build_form.new.draft) (omega arith)
          c.loop-place.invariant.closed (rw c.parse_form.ensures at c.in_ok-build_form.ensures.closed);
    }

pub returns-clause-means : goal.returns-clause-means
returns-clause-means c = λ rs asked means. rw (take_all c.loop-place.place-index c.args.forms.now (omega arith)) at (c.loop-place.invariant.means rs asked means)

pub build_form-requires : goal.build_form-requires
build_form-requires c = record {
  room = omega (
    arith,
    forms_next c.args.context.now.names.now (sites c.args.context.now.flat.now) c.args.forms.now c.loop-place.place-index c.loop-place-test.true,
    forms_front c.args.context.now.names.now (sites c.args.context.now.flat.now) c.args.forms.now (c.loop-place.place-index + 1),
    c.loop-place.invariant.room,
    c.requires.room,
    ap (form_size) c.parse_form.ensures,
  );
}

pub returns-clause-room : goal.returns-clause-room
returns-clause-room c = omega (arith, forms_front c.args.context.now.names.now (sites c.args.context.now.flat.now) c.args.forms.now c.loop-place.place-index, c.loop-place.invariant.room)

pub returns-clause-narrow : goal.returns-clause-narrow
returns-clause-narrow c = omega (arith, widest_front c.args.context.now.names.now (sites c.args.context.now.flat.now) c.args.forms.now c.loop-place.place-index, c.loop-place.invariant.narrow)
