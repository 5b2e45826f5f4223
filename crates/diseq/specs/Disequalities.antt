-- Disequalities: what they say under bindings, and what becomes of them as bindings are added.
use Rattle.std.specs.Prelude.{◌↔◌, ℕ, Bool, List, [], ◌∷◌}
use Rattle.std.specs.List.{list_all}
use Rattle.kan_terms.specs.Tree.{Tm, term_eq}
use Rattle.kan_model.specs.Stores.Store.{Equation}
use Rattle.kan_model.specs.Stores.Unifiers.{Unifies}
use Rattle.unify_core.specs.Walking.{Pairs, full}
use Rattle.unify_core.specs.Solutions.{IsSolution}

-- a disequality is the list of equations that would make it false: it says that they don't all hold
abbrev pub Disequality : Type 0
Disequality = List Equation

-- the two sides of an equation are the same under bindings
abbrev pub has_same_sides : Pairs → Equation → Bool
has_same_sides bound e = term_eq (full bound e.left) (full bound e.right)

-- a disequality is false under bindings: the sides of each of its equations are the same
abbrev pub is_identical : Pairs → Disequality → Bool
is_identical bound es = list_all (has_same_sides bound) es

-- under bindings two disequalities say the same: their equations have the same solutions
abbrev pub SaysAsMuch : Pairs → Disequality → Disequality → Type 0
SaysAsMuch bound es fs = (f : ℕ → Tm) → IsSolution f bound → Unifies f es ↔ Unifies f fs

-- under bindings a disequality always holds: its equations have no solution
abbrev pub NeverEqual : Pairs → Disequality → Type 0
NeverEqual bound es = (f : ℕ → Tm) → IsSolution f bound → Unifies f es → ⊥

-- disequalities brought up to bindings: each stands for an older one and says as much, one that
-- always holds by now may be left out, and the order stays
pub data Brought (bound : Pairs) : List Disequality → List Disequality → Type 0 where
  none_left : Brought bound [] []
  listed : {es fs : Disequality} {old new : List Disequality} → SaysAsMuch bound es fs →
      Brought bound old new → Brought bound (es ∷ old) (fs ∷ new)
  left_out : {es : Disequality} {old new : List Disequality} → NeverEqual bound es →
      Brought bound old new → Brought bound (es ∷ old) new
