-- Bindings: pairs of a variable and its term, the newest first.
use Rattle.std.specs.Prelude.{ℕ, List, [], ◌∷◌, Option, None, Some, if◌then◌else◌, eqb}
use Rattle.kan_terms.specs.Tree.{Tm}

-- the term of a variable: that of its newest pair
abbrev pub bound_to : ℕ → List (ℕ × Tm) → Option Tm
bound_to x [] = None
bound_to x (pair ∷ older) = if eqb x pair.0 then Some pair.1 else bound_to x older
