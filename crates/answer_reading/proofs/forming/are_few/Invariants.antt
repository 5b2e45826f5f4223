-- What is left passes exactly where all do.
use Rattle.std.proofs.Common.{◌≡◌, drop}
use Rattle.std.specs.Prelude.{nat_lt}
use Rattle.std.specs.List.{list_all}
use Rattle.answer_reading.proofs.forming.are_few.Given as goal

abbrev pub invariant-loop-name : goal.invariant-loop-name
invariant-loop-name l = list_all (λ v. nat_lt v l.count) l.names ≡ list_all (λ v. nat_lt v l.count) (drop l.name-index l.names)
