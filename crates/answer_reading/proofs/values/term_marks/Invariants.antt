use Rattle.std.proofs.Common.{◌≡◌, take}
use Rattle.answer_reading.specs.Marks.{lent_lists, term_marks}
use Rattle.answer_reading.proofs.values.term_marks.Given as goal

abbrev pub invariant-loop-shape : goal.invariant-loop-shape
invariant-loop-shape l = l.made.items ≡ term_marks (lent_lists l.values) (take l.shape-index l.shapes)
