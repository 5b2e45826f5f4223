use Rattle.std.proofs.Common.{ap, ◌∙◌}
use Rattle.std.specs.List.{list_any}
use Rattle.kan_terms.specs.Terms.{tree}
use Rattle.kan_model.specs.Terms.Letters.{is_letter_of}
use Rattle.kan_model.proofs.LettersLaws.{occurs-letters}
use Rattle.kan_model.proofs.letters.occurs_in.Goals as goal

pub returns : goal.returns
returns c =
    c.has_variable.ensures ∙ ap (list_any (is_letter_of c.args.var)) (c.deref.ensures.value ∙ c.in_ok-letters.ensures) ∙ occurs-letters c.args.var (tree c.args.term.now)
