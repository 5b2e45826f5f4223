-- What was gone past and what is left of the first term make the whole.
use Rattle.std.proofs.Common.{◌≡◌, ◌+◌, ◌-◌, ◌≤◌, drop, length}
use Rattle.answer_reading.specs.Marks.{whole_length}
use Rattle.answer_reading.proofs.marks.first_length.Given as goal

abbrev pub invariant-loop-wanted : goal.invariant-loop-wanted
invariant-loop-wanted l = (l.at ≤ length l.marks) × (l.wanted ≤ l.at + 1) × (l.at + whole_length l.wanted (drop l.at l.marks) ≡ whole_length 1 l.marks)

abbrev pub decreases-loop-wanted : goal.decreases-loop-wanted
decreases-loop-wanted l = length l.marks - l.at
