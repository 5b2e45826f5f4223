-- What is left passes exactly where all do.
use Rattle.std.proofs.Common.{◌≡◌, drop, ◌-◌}
use Rattle.kan_model.specs.Answers.InForm.{ascends}
use Rattle.answer_reading.specs.Forming.{text_le}
use Rattle.answer_reading.proofs.ordering.do_texts_ascend.Given as goal

abbrev pub invariant-loop-at : goal.invariant-loop-at
invariant-loop-at l = ascends (text_le l.names) l.disequalities ≡ ascends (text_le l.names) (drop (l.at - 1) l.disequalities)
