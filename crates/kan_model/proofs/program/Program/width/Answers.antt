use Rattle.std.proofs.Common.{ap, sym, ◌∙◌}
use Rattle.std.specs.Prelude.{option_map}
use Rattle.std.specs.Option.{option_copied}
use Rattle.kan_model.specs.Programs.Measures.{noted_width}
use Rattle.kan_model.specs.Programs.Closed as programs
use Rattle.kan_model.proofs.Programs.NoteLaws.{noted-read}
use Rattle.kan_model.proofs.program.Program.width.Goals as goal

pub returns-in-Some : goal.returns-in-Some
returns-in-Some c =
    let d = c.args.self.now.draft in
    ap (λ r. option_map (λ row. row.width) (option_copied r)) (sym c.in-Some.is)
    ∙ noted-read (λ row. row.width) noted_width d.goals.items (programs.goals c.args.self.now) c.args.at _ d.widths c.goal_row.ensures

pub returns-in-None : goal.returns-in-None
returns-in-None c =
    let d = c.args.self.now.draft in
    ap (λ r. option_map (λ row. row.width) (option_copied r)) (sym c.in-None.is)
    ∙ noted-read (λ row. row.width) noted_width d.goals.items (programs.goals c.args.self.now) c.args.at _ d.widths c.goal_row.ensures
