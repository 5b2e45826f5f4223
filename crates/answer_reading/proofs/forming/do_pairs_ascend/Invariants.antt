-- What is left passes exactly where all do.
use Rattle.std.proofs.Common.{◌≡◌, drop, ◌-◌}
use Rattle.kan_model.specs.Answers.InForm.{ascends}
use Rattle.answer_reading.specs.Forming.{pair_before}
use Rattle.answer_reading.proofs.forming.do_pairs_ascend.Given as goal

abbrev pub invariant-loop-at : goal.invariant-loop-at
invariant-loop-at l = ascends pair_before l.pairs ≡ ascends pair_before (drop (l.at - 1) l.pairs)
