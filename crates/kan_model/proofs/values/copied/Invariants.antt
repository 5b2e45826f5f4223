use Rattle.std.proofs.Common.{◌≡◌, ◌≤◌, map, take, length}
use Rattle.std.specs.Vec.{vec_len, vec_capacity}
use Rattle.kan_terms.specs.Terms.{tree}
use Rattle.kan_model.proofs.values.copied.Given as goal

-- so many are copied, and there is room for all
abbrev pub invariant-loop-value : goal.invariant-loop-value
invariant-loop-value l = (map tree l.copies.items ≡ map tree (take l.value-index l.values)) × ((vec_len l.copies ≡ l.value-index) × (length l.values ≤ vec_capacity l.copies))
