-- What is left passes exactly where all do.
use Rattle.std.proofs.Common.{◌≡◌, drop}
use Rattle.answer_reading.specs.Forming.{shapes_eq}
use Rattle.answer_reading.proofs.forming.are_same_shapes.Given as goal

abbrev pub invariant-loop-at : goal.invariant-loop-at
invariant-loop-at l = shapes_eq l.one l.other ≡ shapes_eq (drop l.at l.one) (drop l.at l.other)
