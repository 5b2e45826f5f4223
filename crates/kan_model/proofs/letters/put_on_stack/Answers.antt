use Rattle.std.proofs.Common.{subst}
use Rattle.std.specs.Option.{option_map}
use Rattle.kan_terms.specs.Terms.{tree}
use Rattle.kan_model.specs.Terms.Letters.{IsAtomOf}
use Rattle.kan_model.proofs.LettersLaws.{puts_atom}
use Rattle.kan_model.proofs.letters.put_on_stack.Goals as goal

pub returns-in_ok-push-in-Some : goal.returns-in_ok-push-in-Some
returns-in_ok-push-in-Some c =
    puts_atom _ _ _ _ c.in_ok-push-in-Some.ensures.items
    (subst (λ made. IsAtomOf c.args.letter (option_map tree made)) c.in-Some.is c.in_ok-atom.ensures)
