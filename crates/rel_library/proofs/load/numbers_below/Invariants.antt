-- The list has the numbers before the next one.
use Rattle.std.proofs.Common.{◌≡◌, string_bytes}
use Rattle.rel_library.specs.Loads.{numbers_below}
use Rattle.rel_library.proofs.load.numbers_below.Given as goal

abbrev pub invariant-loop-next : goal.invariant-loop-next
invariant-loop-next l = string_bytes l.list ≡ numbers_below l.next
