-- What walking and full values are, and what ties bindings in which nothing is replaced to the
-- solver's replacement.
use Rattle.std.specs.Prelude.{◌≡◌, ◌↔◌, ℕ, true, List, map, Option, Some, None}
use Rattle.kan_terms.specs.Tree.{Tree, Tm, Gd, occurs}
use Rattle.kan_terms.specs.Bound.{bound_to}
use Rattle.kan_model.specs.Stores.Store.{Equation}
use Rattle.kan_model.specs.Stores.Solve.{Replacement, apply, solve}
use Rattle.kan_model.specs.Stores.Unifiers.{Factors, Unifies}
use Rattle.unify_core.specs.Walking.{Pairs, walk, full}
use Rattle.unify_core.specs.Cycles.{HasNoCycle}
use Rattle.unify_core.specs.Solutions.{IsSolution, AddedTo, bindings_solved, equation}
use Rattle.unify_core.specs.Unifying.{Unifying}

-- a term is no bound variable
abbrev pub IsEnd : Pairs → Tm → Type 0
IsEnd bound t = (x : ℕ) → t ≡ Tree.leaf x → bound_to x bound ≡ None

-- walking goes on from a bound variable to its term, ends at every other term, and comes to an end
pub record WalksToEnd : Type 0 where
  pub goes_on : (bound : Pairs) (x : ℕ) (t : Tm) → HasNoCycle bound → bound_to x bound ≡ Some t →
      walk bound (Tree.leaf x) ≡ walk bound t
  pub stays : (bound : Pairs) (t : Tm) → IsEnd bound t → walk bound t ≡ t
  pub comes_to_end : (bound : Pairs) (t : Tm) → HasNoCycle bound → IsEnd bound (walk bound t)

-- a bound variable has the full value of its term, another one has itself, and no bound variable is
-- left; what a term walks to has its full value
pub record FullValues : Type 0 where
  pub of_bound : (bound : Pairs) (x : ℕ) (t : Tm) → HasNoCycle bound → bound_to x bound ≡ Some t →
      full bound (Tree.leaf x) ≡ full bound t
  pub of_unbound : (bound : Pairs) (x : ℕ) → bound_to x bound ≡ None → full bound (Tree.leaf x)
      ≡ Tree.leaf x
  pub none_left : (bound : Pairs) (t : Tm) (y : ℕ) → HasNoCycle bound → occurs y (full bound t)
      ≡ true → bound_to y bound ≡ None
  pub of_walked : (bound : Pairs) (t : Tm) → HasNoCycle bound → full bound (walk bound t)
      ≡ full bound t

-- the solver answers for bindings without a cycle with a replacement that has the same solutions
-- and makes of each term its full value
abbrev pub BindingsReplace : Type 0
BindingsReplace =
    (bound : Pairs) → HasNoCycle bound → (s : Replacement)
    × (solve (bindings_solved bound) ≡ Some s)
    × ((f : ℕ → Gd) → IsSolution f bound ↔ Factors f s) × ((t : Tm) → full bound t ≡ apply s t)

-- unification over bindings comes to an end, and adds one list or none
pub record AddsOne : Type 0 where
  pub comes_to_end : (bound : Pairs) (es : List Equation) → HasNoCycle bound →
      (added : Option (List (Tm × Tm))) × Unifying bound es added
  pub is_one : (bound : Pairs) (es : List Equation) (added other : Option (List (Tm × Tm))) →
      Unifying bound es added → Unifying bound es other → added ≡ other

-- added pairs as equations
abbrev pub added_equations : List (Tm × Tm) → List Equation
added_equations = map (λ pair. equation pair.0 pair.1)

-- beside the bindings, what is added has exactly the solutions of the equations; where there is no
-- unifier, the equations have no solution
abbrev pub AddedSolve : Type 0 → Type 0
AddedSolve V =
    ((bound : Pairs) (es : List Equation) (added : List (Tm × Tm)) → HasNoCycle bound →
    Unifying bound es (Some added) →
    (f : ℕ → Tree V) → IsSolution f bound → Unifies f es ↔ Unifies f (added_equations added))
    × ((bound : Pairs) (es : List Equation) → HasNoCycle bound → Unifying bound es None →
    (f : ℕ → Tree V) → IsSolution f bound → Unifies f es → ⊥)

-- this holds for terms and for ground terms, and what is added can be put in front of the bindings
-- one after the other, which makes no cycle
pub record AddsSolutions : Type 0 where
  pub of_terms : AddedSolve ℕ
  pub of_ground : AddedSolve ⊥
  pub can_be_put : (bound : Pairs) (es : List Equation) (added : List (Tm × Tm)) →
      HasNoCycle bound → Unifying bound es (Some added) →
      (new : Pairs) × AddedTo bound added new × HasNoCycle new
