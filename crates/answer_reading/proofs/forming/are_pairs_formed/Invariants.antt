-- What is left passes exactly where all do.
use Rattle.std.proofs.Common.{◌≡◌, drop}
use Rattle.std.specs.List.{list_all}
use Rattle.answer_reading.specs.Forming.{is_pair_formed}
use Rattle.answer_reading.proofs.forming.are_pairs_formed.Given as goal

abbrev pub invariant-loop-pair : goal.invariant-loop-pair
invariant-loop-pair l = list_all (is_pair_formed l.count) l.pairs ≡ list_all (is_pair_formed l.count) (drop l.pair-index l.pairs)
