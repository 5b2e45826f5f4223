-- What is left passes exactly where all do.
use Rattle.std.proofs.Common.{◌≡◌, drop}
use Rattle.answer_reading.specs.Forming.{is_free_of}
use Rattle.answer_reading.proofs.forming.is_free_of.Given as goal

abbrev pub invariant-loop-pair : goal.invariant-loop-pair
invariant-loop-pair l = is_free_of l.pairs l.name ≡ is_free_of (drop l.pair-index l.pairs) l.name
