-- The only run of a program.
use Rattle.std.proofs.Common.{◌≡◌, List, [], ◌∷◌, map, length, sym, subst, ap, arith}
use Rattle.std.specs.Prelude.{Some, true, slice_get, unwrap_or}
use Rattle.kan_model.specs.Programs.Nodes.{goal_place}
use Rattle.kan_model.specs.Programs.Tables.{Tables, are_closed}
use Rattle.kan_model.specs.declared.nodes.Query.{Query}

-- nothing is open in tables with the goal of their only run
pub only_closed : (ts : Tables) (qs : List Query) (q : Query) → length qs ≡ 1 → Some q ≡ slice_get qs 0 → are_closed ts (map goal_place qs) ≡ true → are_closed ts (q.goal ∷ []) ≡ true
only_closed ts [] q one is closed = absurd cc
only_closed ts (x ∷ []) q one is closed = subst (λ y. are_closed ts (goal_place y ∷ []) ≡ true) (sym (ap (λ o. unwrap_or o x) is)) closed
only_closed ts (x ∷ y ∷ ys) q one is closed = absurd (omega (arith, one))
