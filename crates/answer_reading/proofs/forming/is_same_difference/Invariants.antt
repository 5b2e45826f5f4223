-- What is left passes exactly where all do.
use Rattle.std.proofs.Common.{◌≡◌, drop}
use Rattle.answer_reading.specs.Forming.{pairs_eq}
use Rattle.answer_reading.proofs.forming.is_same_difference.Given as goal

abbrev pub invariant-loop-at : goal.invariant-loop-at
invariant-loop-at l = pairs_eq l.one l.other ≡ pairs_eq (drop l.at l.one) (drop l.at l.other)
