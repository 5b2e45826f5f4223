use Rattle.std.proofs.Common.{sym, ◌∙◌}
use Rattle.kan_model.proofs.LettersLaws.{same_tests}
use Rattle.kan_model.proofs.letters.same_terms.Goals as goal

pub returns : goal.returns
returns c =
    same_tests _ _ _ (λ yes. sym c.in_ok-left.ensures ∙ c.same_letters.ensures.0 yes ∙ c.in_ok-right.ensures)
    (λ same. c.same_letters.ensures.1 (c.in_ok-left.ensures ∙ same ∙ sym c.in_ok-right.ensures))
