-- What is left passes exactly where all do.
use Rattle.std.proofs.Common.{◌≡◌, drop}
use Rattle.reify.specs.Shapes.{all_whole}
use Rattle.answer_reading.proofs.forming.are_pairs_whole.Given as goal

abbrev pub invariant-loop-pair : goal.invariant-loop-pair
invariant-loop-pair l = all_whole l.pairs ≡ all_whole (drop l.pair-index l.pairs)
