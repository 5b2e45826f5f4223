use Rattle.std.proofs.Common.{◌≡◌, drop}
use Rattle.answer_reading.specs.Marks.{marks_eq}
use Rattle.answer_reading.proofs.marks.same_marks.Given as goal

abbrev pub invariant-loop-at : goal.invariant-loop-at
invariant-loop-at l = marks_eq l.one l.other ≡ marks_eq (drop l.at l.one) (drop l.at l.other)
