use Rattle.std.proofs.Common.{◌≡◌, ◌++◌, length}
use Rattle.kan_terms.specs.Terms.{tree}
use Rattle.kan_model.specs.Terms.Letters.{spelling, waiting_spelling}
use Rattle.kan_model.proofs.letters.spell.Given as goal

-- what was written and what the waiting terms spell is what the term spells
abbrev pub invariant-loop-next : goal.invariant-loop-next
invariant-loop-next l = l.letters.items ++ waiting_spelling l.waiting.items ≡ spelling (tree l.term)

abbrev pub decreases-loop-next : goal.decreases-loop-next
decreases-loop-next l = length (waiting_spelling l.waiting.items)
