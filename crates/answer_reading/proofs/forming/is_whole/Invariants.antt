-- What is left passes exactly where all do.
use Rattle.std.proofs.Common.{◌≡◌, drop, ◌+◌, ◌≤◌}
use Rattle.reify.specs.Shapes.{spells}
use Rattle.answer_reading.proofs.forming.is_whole.Given as goal

abbrev pub invariant-loop-shape : goal.invariant-loop-shape
invariant-loop-shape l = (l.wanted ≤ l.shape-index + 1) × (spells 1 l.shapes ≡ spells l.wanted (drop l.shape-index l.shapes))
