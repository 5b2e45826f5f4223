-- What is left passes exactly where all do.
use Rattle.std.proofs.Common.{◌≡◌, drop}
use Rattle.std.specs.List.{list_all}
use Rattle.answer_reading.specs.Forming.{is_free_of}
use Rattle.answer_reading.proofs.forming.are_replaced.Given as goal

abbrev pub invariant-loop-pair : goal.invariant-loop-pair
invariant-loop-pair l = list_all (λ p. is_free_of l.pairs p.name) l.pairs ≡ list_all (λ p. is_free_of l.pairs p.name) (drop l.pair-index l.pairs)
