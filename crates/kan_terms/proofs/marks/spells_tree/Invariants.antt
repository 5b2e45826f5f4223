-- The marks that are left spell the wanted trees exactly where all marks spell one tree.
use Rattle.std.proofs.Common.{◌≡◌, ◌+◌, ◌≤◌, drop}
use Rattle.kan_terms.proofs.SpellingLaws.{spells_many}
use Rattle.kan_terms.proofs.marks.spells_tree.Given as goal

abbrev pub invariant-loop-mark : goal.invariant-loop-mark
invariant-loop-mark l = record {
  small : l.wanted ≤ l.mark-index + 1;
  left : spells_many l.wanted (drop l.mark-index l.marks) ≡ spells_many 1 l.marks;
}
