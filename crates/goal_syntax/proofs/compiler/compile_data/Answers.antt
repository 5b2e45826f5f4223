use Rattle.std.proofs.Common.{[], arith, ap, ◌∙◌, length, map}
use Rattle.std.specs.List.{list_all}
use Rattle.kan_grammar.specs.Texts.TextFaults.{faults_of}
use Rattle.goal_forms.specs.Heights.{is_low_datum}
use Rattle.goal_forms.specs.Parts.{sites, site_at}
use Rattle.goal_forms.proofs.DataPlaces.{places_made, split_places}
use Rattle.goal_syntax.specs.Building.Entries.{forms_size}
use Rattle.goal_syntax.proofs.Compiling.OfTextLaws.{forms_of_data}
use Rattle.goal_syntax.proofs.Compiling.OfTextLaws.{narrow_data}
use Rattle.goal_syntax.specs.Building.Widths.{forms_width}
use Rattle.goal_syntax.proofs.Building.NamedLaws.{first_named}
use Rattle.goal_forms.specs.Unnamed.{sites_unnamed}
use Rattle.goal_syntax.proofs.compiler.compile_data.Goals as goal

pub split_at-requires : goal.split_at-requires
split_at-requires c =
    let size = places_made (sites c.turn_both.new.table) c.in_ok-places.places.items c.args.names.now c.args.library.now c.args.text.now c.in_ok-places.ensures.made in
    omega (arith, size, ap length c.as_slice.ensures.value)

pub compile_forms-requires-clause-few : goal.compile_forms-requires-clause-few
compile_forms-requires-clause-few c =
    let size = places_made (sites c.turn_both.new.table) c.in_ok-places.places.items c.args.names.now c.args.library.now c.args.text.now c.in_ok-places.ensures.made in
    omega (arith, size, ap length c.as_slice.ensures.value, c.split_at.ensures.front_len, c.split_at.ensures.back_len, c.requires.few)

pub compile_forms-requires-clause-low : goal.compile_forms-requires-clause-low
compile_forms-requires-clause-low c = c.in_ok-places.ensures.low c.requires.low_library c.requires.low_text (ap (list_all is_low_datum) c.new-table.ensures)

pub compile_forms-requires-clause-alone : goal.compile_forms-requires-clause-alone
compile_forms-requires-clause-alone c =
    let parts = split_places (sites c.turn_both.new.table) c.as_slice.result.now c.split_at.result.0.now c.split_at.result.1.now c.args.names.now c.args.library.now c.args.text.now
    (ap (map (site_at (sites c.turn_both.new.table))) c.as_slice.ensures.value ∙ c.in_ok-places.ensures.made) c.split_at.ensures.front c.split_at.ensures.back in
    ap (faults_of c.args.names.now []) parts.0 ∙ c.requires.alone

pub returns : goal.returns
returns c =
    let parts = split_places (sites c.turn_both.new.table) c.as_slice.result.now c.split_at.result.0.now c.split_at.result.1.now c.args.names.now c.args.library.now c.args.text.now
    (ap (map (site_at (sites c.turn_both.new.table))) c.as_slice.ensures.value ∙ c.in_ok-places.ensures.made) c.split_at.ensures.front c.split_at.ensures.back in
    rw (parts.0, parts.1) at c.compile_forms.ensures

pub turn_both-requires-clause-room : goal.turn_both-requires-clause-room
turn_both-requires-clause-room c = omega (arith, ap length c.new-table.ensures, c.requires.library_parts, c.requires.text_parts)

pub compile_forms-requires-clause-room : goal.compile_forms-requires-clause-room
compile_forms-requires-clause-room c =
    let parts = split_places (sites c.turn_both.new.table) c.as_slice.result.now c.split_at.result.0.now c.split_at.result.1.now c.args.names.now c.args.library.now c.args.text.now
    (ap (map (site_at (sites c.turn_both.new.table))) c.as_slice.ensures.value ∙ c.in_ok-places.ensures.made) c.split_at.ensures.front c.split_at.ensures.back in
    omega (
      arith,
      ap (forms_size c.args.names.now) parts.0,
      ap (forms_size c.args.names.now) parts.1,
      forms_of_data c.args.names.now c.args.library.now,
      forms_of_data c.args.names.now c.args.text.now,
      c.requires.library_parts,
      c.requires.text_parts,
    )

pub compile_forms-requires-clause-narrow_library : goal.compile_forms-requires-clause-narrow_library
compile_forms-requires-clause-narrow_library c =
    let parts = split_places (sites c.turn_both.new.table) c.as_slice.result.now c.split_at.result.0.now c.split_at.result.1.now c.args.names.now c.args.library.now c.args.text.now
    (ap (map (site_at (sites c.turn_both.new.table))) c.as_slice.ensures.value ∙ c.in_ok-places.ensures.made) c.split_at.ensures.front c.split_at.ensures.back in
    omega (arith, ap (forms_width c.args.names.now) parts.0, narrow_data c.args.names.now c.args.library.now c.requires.library_parts)

pub compile_forms-requires-clause-narrow_text : goal.compile_forms-requires-clause-narrow_text
compile_forms-requires-clause-narrow_text c =
    let parts = split_places (sites c.turn_both.new.table) c.as_slice.result.now c.split_at.result.0.now c.split_at.result.1.now c.args.names.now c.args.library.now c.args.text.now
    (ap (map (site_at (sites c.turn_both.new.table))) c.as_slice.ensures.value ∙ c.in_ok-places.ensures.made) c.split_at.ensures.front c.split_at.ensures.back in
    omega (arith, ap (forms_width c.args.names.now) parts.1, narrow_data c.args.names.now c.args.text.now c.requires.text_parts)

pub compile_forms-requires-clause-named : goal.compile_forms-requires-clause-named
compile_forms-requires-clause-named c =
    omega (
      arith,
      first_named c.args.names.now c.args.prefixes.now.quote c.requires.prefixed.quote,
      ap (sites_unnamed c.args.names.now) c.new-table.ensures,
      c.in_ok-places.ensures.named,
    )
