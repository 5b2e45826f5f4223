use Rattle.std.proofs.Common.{◌≡◌, ◌≤◌, map, take, length}
use Rattle.std.specs.Vec.{vec_len, vec_capacity}
use Rattle.kan_tree.proofs.slots.copied.Given as goal

-- so many are copied, and there is room for all
abbrev pub invariant-loop-entry : goal.invariant-loop-entry
invariant-loop-entry g l = (map g.E.Again.meaning l.made.items ≡ map g.E.Again.meaning (take l.entry-index l.from)) × ((vec_len l.made ≡ l.entry-index) × (length l.from ≤ vec_capacity l.made))
