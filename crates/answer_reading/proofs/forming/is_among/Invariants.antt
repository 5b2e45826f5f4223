-- What is left passes exactly where all do.
use Rattle.std.proofs.Common.{◌≡◌, drop}
use Rattle.std.specs.List.{list_any}
use Rattle.answer_reading.specs.Forming.{pairs_eq}
use Rattle.answer_reading.proofs.forming.is_among.Given as goal

abbrev pub invariant-loop-other : goal.invariant-loop-other
invariant-loop-other l = list_any (pairs_eq l.pairs) l.disequalities ≡ list_any (pairs_eq l.pairs) (drop l.other-index l.disequalities)
