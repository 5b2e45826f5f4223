use Rattle.std.proofs.Common.{ap, sym, ◌∙◌}
use Rattle.std.specs.Option.{option_copied}
use Rattle.kan_model.specs.Programs.Values.{values_of}
use Rattle.kan_model.proofs.Programs.EnvironmentLaws.{slot-letter, letter_found}
use Rattle.kan_model.proofs.environment.Env.slot_letter.Goals as goal

pub returns-in-Some : goal.returns-in-Some
returns-in-Some c =
    c.first_letter.ensures ∙ ap (λ r. letter_found (option_copied r)) (sym c.in-Some.is) ∙ slot-letter (values_of c.args.self.now.values) c.args.slot _ c.slot_value.ensures

pub returns-in-None : goal.returns-in-None
returns-in-None c =
    ap (λ r. letter_found (option_copied r)) (sym c.in-None.is) ∙ slot-letter (values_of c.args.self.now.values) c.args.slot _ c.slot_value.ensures
