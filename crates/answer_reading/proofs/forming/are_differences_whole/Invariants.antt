-- What is left passes exactly where all do.
use Rattle.std.proofs.Common.{◌≡◌, drop}
use Rattle.std.specs.List.{list_all}
use Rattle.reify.specs.Shapes.{all_whole}
use Rattle.answer_reading.proofs.forming.are_differences_whole.Given as goal

abbrev pub invariant-loop-pairs : goal.invariant-loop-pairs
invariant-loop-pairs l = list_all all_whole l.disequalities ≡ list_all all_whole (drop l.pairs-index l.disequalities)
