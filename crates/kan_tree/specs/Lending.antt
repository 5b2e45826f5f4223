-- Entries that are lent.
use Rattle.std.specs.Prelude.{ℕ, Option}
use Rattle.std.specs.Borrow.{LendsIf, MutBor, Fml}
use Rattle.std.specs.Vec.{with_item}
use denote.RattleType.{RattleType}
use Rattle.kan_tree.specs.declared.slots.Slots.{Slots}
use Rattle.kan_tree.specs.contracts.slots.Slots.{the_row}

-- s with another entry at an index
abbrev pub with_entry : {E : Type 0} → Slots E → ℕ → E → Slots E
with_entry s d w = record s { entries = with_item s.entries d w }

-- s ends with the last value behind r at the index
abbrev pub lends_entry : (R : RattleType) → MutBor (Slots R.Denot) → ℕ → Option (MutBor R.Denot) →
    Fml
lends_entry R s d r = LendsIf (the_row R) R s r (with_entry s.now d) s.now
