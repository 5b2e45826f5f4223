-- What is left passes exactly where all do.
use Rattle.std.proofs.Common.{◌≡◌, drop}
use Rattle.std.specs.List.{list_all}
use Rattle.answer_reading.specs.Forming.{is_difference_formed}
use Rattle.answer_reading.proofs.forming.are_solved.Given as goal

abbrev pub invariant-loop-pairs : goal.invariant-loop-pairs
invariant-loop-pairs l = list_all (is_difference_formed l.count) l.disequalities ≡ list_all (is_difference_formed l.count) (drop l.pairs-index l.disequalities)
