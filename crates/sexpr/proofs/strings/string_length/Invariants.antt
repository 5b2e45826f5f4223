-- What is left of the bytes, behind those that were gone past, is what the string's length is read from.
use Rattle.std.proofs.Common.{◌≡◌, ◌+◌, ◌-◌, ◌≤◌, false, drop, length}
use Rattle.std.specs.Prelude.{option_map}
use Rattle.kan_grammar.specs.Data.Strings.{string_length}
use Rattle.sexpr.proofs.strings.string_length.Given as goal

abbrev pub invariant-loop-at : goal.invariant-loop-at
invariant-loop-at l = (l.at ≤ length l.bytes) × (option_map (λ n. l.at + n) (string_length l.escape (drop l.at l.bytes)) ≡ string_length false l.bytes)

abbrev pub decreases-loop-at : goal.decreases-loop-at
decreases-loop-at l = length l.bytes - l.at
