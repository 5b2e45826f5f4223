-- What is left passes exactly where all do.
use Rattle.std.proofs.Common.{◌≡◌, drop, ◌≤◌}
use Rattle.answer_reading.specs.Forming.{count_from}
use Rattle.answer_reading.proofs.forming.count_names.Given as goal

abbrev pub invariant-loop-shape : goal.invariant-loop-shape
invariant-loop-shape l = (l.count ≤ l.shape-index) × (count_from 0 l.shapes ≡ count_from l.count (drop l.shape-index l.shapes))
