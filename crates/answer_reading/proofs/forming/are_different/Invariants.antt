-- What is left passes exactly where all do.
use Rattle.std.proofs.Common.{◌≡◌, drop}
use Rattle.answer_reading.specs.Forming.{all_different}
use Rattle.answer_reading.proofs.forming.are_different.Given as goal

abbrev pub invariant-loop-at : goal.invariant-loop-at
invariant-loop-at l = all_different l.disequalities ≡ all_different (drop l.at l.disequalities)
