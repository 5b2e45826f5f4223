-- Bindings without a cycle.
use Rattle.std.specs.Prelude.{◌≡◌, ℕ, ◌<◌, true, [], ◌∷◌, Some, None}
use Rattle.kan_terms.specs.Tree.{Tm, occurs}
use Rattle.kan_terms.specs.Bound.{bound_to}
use Rattle.unify_core.specs.Walking.{Pairs}

-- no variable is bound twice
abbrev pub BoundOnce : Pairs → Type 0
BoundOnce [] = Unit {0}
BoundOnce (newest ∷ older) = (bound_to newest.0 older ≡ None) × BoundOnce older

-- following bound variables, also inside their terms, always ends: each variable of a term has a
-- lower rank than the variable that is bound to the term
pub record HasNoCycle (bound : Pairs) : Type 0 where
  pub once : BoundOnce bound
  pub rank : ℕ → ℕ
  pub falls : (x y : ℕ) (t : Tm) → bound_to x bound ≡ Some t → occurs y t ≡ true → rank y < rank x
