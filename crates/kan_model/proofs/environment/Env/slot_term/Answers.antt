use Rattle.std.proofs.Common.{ap, sym, ◌∙◌}
use Rattle.std.specs.Option.{option_copied}
use Rattle.kan_model.specs.Programs.Values.{values_of}
use Rattle.kan_model.proofs.Programs.EnvironmentLaws.{slot-term, term_found}
use Rattle.kan_model.proofs.environment.Env.slot_term.Goals as goal

pub returns-in_ok-copy-in-Some : goal.returns-in_ok-copy-in-Some
returns-in_ok-copy-in-Some c =
    c.in_ok-copy-in-Some.ensures ∙ ap (λ r. term_found (option_copied r)) (sym c.in-Some.is)
    ∙ slot-term (values_of c.args.self.now.values) c.args.slot _ c.slot_value.ensures

pub returns-in-None : goal.returns-in-None
returns-in-None c =
    ap (λ r. term_found (option_copied r)) (sym c.in-None.is)
    ∙ slot-term (values_of c.args.self.now.values) c.args.slot _ c.slot_value.ensures
