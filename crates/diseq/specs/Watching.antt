-- Which variable watches a disequality, and which disequalities are looked at again where bindings
-- were added.
use Rattle.std.specs.Prelude.{ℕ, Bool, true, false, ◌&&◌, ◌||◌, not, List, [], ◌∷◌, Option, Some}
use Rattle.std.specs.Prelude.{None}
use Rattle.std.specs.List.{list_any}
use Rattle.kan_terms.specs.Tree.{Tree, Tm}
use Rattle.kan_terms.specs.Bound.{bound_to}
use Rattle.kan_model.specs.Stores.Kept.{is_variable}
use Rattle.unify_core.specs.Walking.{Pairs, walk}
use Rattle.diseq.specs.Disequalities.{Disequality}

-- nothing is there
abbrev pub is_none : {X : Type 0} → Option X → Bool
is_none None = true
is_none (Some x) = false

-- an unbound variable that isn't what the term walks to
abbrev pub is_apart : Pairs → Tm → Tm → Bool
is_apart bound (Tree.leaf x) t = is_none (bound_to x bound) && not (is_variable x (walk bound t))
is_apart bound _ t = false

-- a disequality is watchable: its first left side is an unbound variable, and isn't what the right
-- side walks to
abbrev pub is_watchable : Pairs → Disequality → Bool
is_watchable bound [] = false
is_watchable bound (e ∷ es) = is_apart bound e.left e.right

-- the disequality is watched by the variable: this is its first left side
abbrev pub is_watched_by : ℕ → Disequality → Bool
is_watched_by x [] = false
is_watched_by x (e ∷ es) = is_variable x e.left

-- the term is the variable that watches the disequality
abbrev pub watches : Tm → Disequality → Bool
watches (Tree.leaf x) es = is_watched_by x es
watches _ es = false

-- a side of one of these pairs is the variable that watches the disequality
abbrev pub is_woken : List (Tm × Tm) → Disequality → Bool
is_woken pairs es = list_any (λ pair. watches pair.0 es || watches pair.1 es) pairs
