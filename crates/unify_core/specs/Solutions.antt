-- The solutions of bindings, bindings as equations, and bindings to which others were added.
use Rattle.std.specs.Prelude.{◌≡◌, ℕ, List, [], ◌∷◌, ◌++◌, None}
use Rattle.kan_terms.specs.Tree.{Tree, Tm, fill}
use Rattle.kan_terms.specs.Bound.{bound_to}
use Rattle.kan_model.specs.Stores.Store.{Equation}
use Rattle.unify_core.specs.Walking.{Pairs, walk}

-- what f puts for variables solves bindings: each variable has the value of its term
abbrev pub IsSolution : {V : Type 0} → (ℕ → Tree V) → Pairs → Type 0
IsSolution f [] = Unit {0}
IsSolution f (newest ∷ older) = (f newest.0 ≡ fill f newest.1) × IsSolution f older

-- the equation of two terms
abbrev pub equation : Tm → Tm → Equation
equation a b = record { left = a; right = b }

-- bindings as equations, the oldest first
abbrev pub bindings_solved : Pairs → List Equation
bindings_solved [] = []
bindings_solved (newest ∷ older) =
    bindings_solved older ++ equation (Tree.leaf newest.0) newest.1 ∷ []

-- bindings are older ones with pairs put in front one after the other, each of a variable that
-- wasn't bound to a term that walked to itself at that moment
abbrev pub AddedTo : Pairs → List (Tm × Tm) → Pairs → Type 0
AddedTo older [] bound = bound ≡ older
AddedTo older (added ∷ more) bound =
    (x : ℕ) × (added.0 ≡ Tree.leaf x) × (bound_to x older ≡ None) × (walk older added.1 ≡ added.1)
    × AddedTo ((x, added.1) ∷ older) more bound
