use Rattle.std.proofs.Common.{◌≤◌, drop, length}
use Rattle.answer_reading.specs.Marks.{lent_lists}
use Rattle.answer_reading.specs.Finding.{FindsSo}
use Rattle.answer_reading.proofs.values.values_of.Given as goal

abbrev pub invariant-loop-shape : goal.invariant-loop-shape
invariant-loop-shape l = (l.at ≤ length l.marks) × FindsSo l.shapes l.marks (lent_lists l.values.items) (drop l.shape-index l.shapes) (drop l.at l.marks)
