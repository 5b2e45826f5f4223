use Rattle.std.proofs.Common.{◌≡◌, ◌++◌, length}
use Rattle.kan_terms.specs.Spelling.{spelling}
use Rattle.ground_meaning.specs.Values.{value_of, waiting_marks}
use Rattle.ground_meaning.proofs.values.marks_of.Given as goal

-- what was put, and what the waiting templates spell, is what the template's value spells
abbrev pub invariant-loop-next : goal.invariant-loop-next
invariant-loop-next l = l.marks.items ++ waiting_marks (value_of l.program l.values) l.waiting.items ≡ spelling (value_of l.program l.values l.term)

abbrev pub decreases-loop-next : goal.decreases-loop-next
decreases-loop-next l = length (waiting_marks (value_of l.program l.values) l.waiting.items)
