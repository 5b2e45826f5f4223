-- What stands at a place.
use Rattle.std.specs.Prelude.{ℕ, Option, slice_get}
use Rattle.std.proofs.Common.{get_or}
use Rattle.kan_tree.specs.declared.slots.Slots.{Slots}

-- the index of a place
abbrev pub index_in : {E : Type 0} → Slots E → ℕ → ℕ
index_in s d = get_or s.order.indices d 16

abbrev pub at : {E : Type 0} → Slots E → ℕ → Option E
at s d = slice_get s.entries.items (index_in s d)
