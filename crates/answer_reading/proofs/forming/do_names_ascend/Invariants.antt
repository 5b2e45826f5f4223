-- What is left passes exactly where all do.
use Rattle.std.proofs.Common.{◌≡◌, drop, ◌-◌}
use Rattle.kan_model.specs.Answers.InForm.{ascends}
use Rattle.std.specs.Prelude.{nat_lt}
use Rattle.answer_reading.proofs.forming.do_names_ascend.Given as goal

abbrev pub invariant-loop-at : goal.invariant-loop-at
invariant-loop-at l = ascends nat_lt l.names ≡ ascends nat_lt (drop (l.at - 1) l.names)
