use Rattle.std.proofs.Common.{map}
use Rattle.kan_model.specs.Programs.Drafts.{tables}
use Rattle.goal_forms.specs.Parts.{sites, site_at}
use Rattle.goal_forms.specs.RelationTables.{relations}
use Rattle.goal_syntax.proofs.Compiling.CompilingLaws.{program_meant}
use Rattle.goal_syntax.proofs.Compiling.ClosingLaws.{all_are_closed}
use Rattle.goal_syntax.proofs.Compiling.CompilingLaws.{names_both}
use Rattle.std.proofs.Common.{arith, ap}
use Rattle.goal_syntax.proofs.Building.EntryLaws.{room_left}
use Rattle.goal_syntax.specs.Building.Entries.{entries}
use Rattle.goal_syntax.specs.Building.Widths.{widest_in}
use Rattle.std.proofs.Common.{arith}
use Rattle.std.proofs.Common.{ap}
use Rattle.std.proofs.Common.{◌∙◌}
use Rattle.goal_syntax.proofs.Building.NamedLaws.{all_named}
use Rattle.goal_syntax.specs.Compiling.SymbolNames.{are_named}
use Rattle.goal_syntax.specs.Building.Named.{tables_unnamed}
use Rattle.goal_syntax.proofs.compiler.build_program.Goals as goal

pub returns-clause-meant : goal.returns-clause-meant
returns-clause-meant c =
    let ds = sites c.args.context.now.flat.now in
    program_meant c.args.context.now.dialect c.args.context.now.names.now (map (site_at ds) c.args.library.now) (map (site_at ds) c.args.forms.now) (relations c.args.context.now.relations.now)
    (tables c.new-draft.result) (tables c.build_library.new.draft) (tables c.build_text.new.draft) c.close-compiled.result.program c.new-queries.result c.build_text.new.queries c.close-compiled.result.queries
    c.requires.relations c.new-draft.ensures c.new-queries.ensures c.in_ok-build_library.ensures.means c.in_ok-build_text.ensures.means
    c.close-compiled.ensures.tables c.close-compiled.ensures.queries c.close-compiled.ensures.closed c.close-compiled.ensures.small (room_left (tables c.build_text.new.draft) (omega (arith, ap entries c.new-draft.ensures, c.in_ok-build_library.ensures.room, c.in_ok-build_text.ensures.room, c.requires.room)))

pub close-compiled-requires-clause-closed : goal.close-compiled-requires-clause-closed
close-compiled-requires-clause-closed c =
    let ds = sites c.args.context.now.flat.now in
    all_are_closed c.args.context.now.dialect c.args.context.now.names.now ds (map (site_at ds) c.args.library.now) (map (site_at ds) c.args.forms.now) (relations c.args.context.now.relations.now)
    (tables c.new-draft.result) (tables c.build_library.new.draft) (tables c.build_text.new.draft) c.new-queries.result c.build_text.new.queries
    c.requires.relations c.new-draft.ensures c.new-queries.ensures c.in_ok-build_library.ensures.means c.in_ok-build_text.ensures.means
    c.in_ok-build_library.ensures.closed c.in_ok-build_text.ensures.closed c.build_text.new.draft.grown c.requires.low c.requires.alone c.requires.accepted

pub returns-clause-names : goal.returns-clause-names
returns-clause-names c =
    let ds = sites c.args.context.now.flat.now in
    names_both c.args.context.now.names.now (map (site_at ds) c.args.library.now) (map (site_at ds) c.args.forms.now) (tables c.new-draft.result) (tables c.build_library.new.draft) (tables c.build_text.new.draft) _
    c.new-draft.ensures c.in_ok-build_library.ensures.names c.in_ok-build_text.ensures.names c.close-compiled.ensures.tables

pub build_library-requires : goal.build_library-requires
build_library-requires c = record { room = omega (arith, ap entries c.new-draft.ensures, c.requires.room) }

pub build_text-requires : goal.build_text-requires
build_text-requires c = record { room = omega (arith, ap entries c.new-draft.ensures, c.in_ok-build_library.ensures.room, c.requires.room) }

pub close-compiled-requires-clause-narrow : goal.close-compiled-requires-clause-narrow
close-compiled-requires-clause-narrow c =
    omega (
      arith,
      ap widest_in c.new-draft.ensures,
      c.in_ok-build_library.ensures.narrow,
      c.in_ok-build_text.ensures.narrow,
      c.requires.narrow_library,
      c.requires.narrow_text,
    )

pub returns-clause-named : goal.returns-clause-named
returns-clause-named c =
    ap (are_named c.args.context.now.names.now) c.close-compiled.ensures.tables
    ∙ all_named c.args.context.now.names.now (tables c.build_text.new.draft)
    (omega (arith, ap (tables_unnamed c.args.context.now.names.now) c.new-draft.ensures, c.in_ok-build_library.ensures.named, c.in_ok-build_text.ensures.named, c.requires.named))
