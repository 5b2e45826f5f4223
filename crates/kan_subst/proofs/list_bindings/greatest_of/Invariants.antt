use Rattle.std.proofs.Common.{◌≡◌, ◌≤◌, map, drop, length}
use Rattle.kan_terms.specs.Greatest.{greatest_bound}
use Rattle.kan_subst.specs.Meaning.{pair}
use Rattle.kan_subst.proofs.list_bindings.greatest_of.Given as goal

-- the greatest of those from the index on
abbrev pub invariant-loop-left : goal.invariant-loop-left
invariant-loop-left l = (l.left ≤ length l.stored) × (l.greatest ≡ greatest_bound (map pair (drop l.left l.stored)))

abbrev pub decreases-loop-left : goal.decreases-loop-left
decreases-loop-left l = l.left
