-- Where terms lead under bindings, which are pairs of a variable and its term, the newest first.
use Rattle.std.specs.Prelude.{◌≡◌, ℕ, false, List, [], ◌∷◌, eqb, if◌then◌else◌}
use Rattle.kan_terms.specs.Tree.{Tree, Tm, fill}
use Rattle.kan_model.specs.Stores.Kept.{is_variable}
use Rattle.kan_model.specs.Stores.Solve.{replace}

-- bindings, as the trait's member gives them
abbrev pub Pairs : Type 0
Pairs = List (ℕ × Tm)

-- a term that goes on where this variable was reached
abbrev pub go_on : ℕ → Tm → Tm → Tm
go_on x t (Tree.leaf y) = if eqb x y then t else Tree.leaf y
go_on x t reached = reached

-- what a term walks to, from variable to variable: where the older pairs lead to the newest
-- variable, the way goes on with its term
abbrev pub walk : Pairs → Tm → Tm
walk [] u = u
walk (newest ∷ older) u = go_on newest.0 (walk older newest.1) (walk older u)

-- a term walks to itself, and isn't the variable
abbrev pub IsOtherEnd : Pairs → ℕ → Tm → Type 0
IsOtherEnd bound x t = (walk bound t ≡ t) × (is_variable x t ≡ false)

-- the full value of a variable: that under the older pairs, with the newest variable replaced by
-- the full value of its term
abbrev pub ends : Pairs → ℕ → Tm
ends [] v = Tree.leaf v
ends (newest ∷ older) v = replace newest.0 (fill (ends older) newest.1) (ends older v)

-- the full value of a term: each variable has its full value
abbrev pub full : Pairs → Tm → Tm
full bound = fill (ends bound)
