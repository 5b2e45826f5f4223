use Rattle.std.proofs.Common.{◌≡◌, ◌≤◌, map, take, length}
use Rattle.std.specs.Vec.{vec_len, vec_capacity}
use Rattle.kan_terms.specs.Terms.{sides}
use Rattle.unify_core.specs.LentBindings.{lent_sides}
use Rattle.unify_core.proofs.unifying.owned.Given as goal

-- so many are made, and there is room for all
abbrev pub invariant-loop-one : goal.invariant-loop-one
invariant-loop-one l = (map sides l.made.items ≡ lent_sides (take l.one-index l.lent)) × ((vec_len l.made ≡ l.one-index) × (length l.lent ≤ vec_capacity l.made))
