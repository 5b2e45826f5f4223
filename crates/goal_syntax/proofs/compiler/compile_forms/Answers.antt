use Rattle.std.proofs.Common.{map, sym, ap, ◌∙◌}
use Rattle.std.specs.Prelude.{option_map}
use Rattle.goal_syntax.specs.Judging.FaultLists.{fault_of}
use Rattle.goal_forms.specs.Parts.{sites, site_at}
use Rattle.goal_syntax.proofs.Judging.FormLaws.{first_is}
use Rattle.goal_syntax.proofs.Compiling.ClosingLaws.{no_faults}
use Rattle.goal_syntax.proofs.compiler.compile_forms.Goals as goal

pub returns-in-Some : goal.returns-in-Some
returns-in-Some c =
    let ds = sites c.args.flat.now in
    sym (sym (ap (option_map fault_of) c.in-Some.is) ∙ first_is c.args.names.now (map (site_at ds) c.args.library.now) (map (site_at ds) c.args.forms.now) _ _ _
    c.in_ok-relations.ensures.relations c.in_ok-relations.ensures.before c.in_ok-fault.ensures)

pub returns : goal.returns
returns c =
    let ds = sites c.args.flat.now in (
      sym (sym (ap (option_map fault_of) c.in_default.is) ∙ first_is c.args.names.now (map (site_at ds) c.args.library.now) (map (site_at ds) c.args.forms.now) _ _ _
          c.in_ok-relations.ensures.relations c.in_ok-relations.ensures.before c.in_ok-fault.ensures),
      c.in_ok-compiled.ensures.meant,
      c.in_ok-compiled.ensures.named,
      c.in_ok-compiled.ensures.names,
    )

pub build_program-requires-clause-accepted : goal.build_program-requires-clause-accepted
build_program-requires-clause-accepted c =
    let ds = sites c.args.flat.now in
    no_faults _ (sym (sym (ap (option_map fault_of) c.in_default.is) ∙ first_is c.args.names.now (map (site_at ds) c.args.library.now) (map (site_at ds) c.args.forms.now) _ _ _
    c.in_ok-relations.ensures.relations c.in_ok-relations.ensures.before c.in_ok-fault.ensures))
