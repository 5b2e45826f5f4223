use Rattle.std.proofs.Common.{ap, ◌∙◌}
use Rattle.std.specs.Prelude.{option_map}
use Rattle.std.specs.Option.{option_copied}
use Rattle.kan_model.specs.Programs.Nodes.{term_entry}
use Rattle.kan_model.specs.Programs.Closed as programs
use Rattle.kan_model.proofs.Programs.EntryLaws.{template-found, template_found}
use Rattle.ground_meaning.proofs.values.template_at.Goals as goal

pub returns-in-Some : goal.returns-in-Some
returns-in-Some c =
    let p = c.args.program.now in
    template-found (programs.tables p) c.args.at _ p.draft.grown c.term.ensures
    ∙ ap (λ r. template_found (programs.templates p) (option_map term_entry (option_copied r))) c.in-Some.is

pub returns-in-None : goal.returns-in-None
returns-in-None c =
    let p = c.args.program.now in
    template-found (programs.tables p) c.args.at _ p.draft.grown c.term.ensures
    ∙ ap (λ r. template_found (programs.templates p) (option_map term_entry (option_copied r))) c.in-None.is
