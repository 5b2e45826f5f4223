-- Unifiers: what makes the sides of equations identical, and what the solver's answers promise of
-- them.
use Rattle.std.specs.Prelude.{◌≡◌, ℕ, Bool, true, false, eqb, List, [], ◌∷◌, Some}
use Rattle.std.specs.List.{list_any}
use Rattle.kan_terms.specs.Tree.{Tree, Tm, Gd, fill, occurs}
use Rattle.kan_model.specs.Stores.Store.{Equation}
use Rattle.kan_model.specs.Stores.Solve.{Replacement, image, apply, solve_by}

-- what f puts for variables makes the sides of each equation identical
abbrev pub Unifies : {V : Type 0} → (ℕ → Tree V) → List Equation → Type 0
Unifies f [] = Unit {0}
Unifies f (e ∷ es) = (fill f e.left ≡ fill f e.right) × Unifies f es

-- a replacement replaces a variable
abbrev pub replaces : Replacement → ℕ → Bool
replaces s x = list_any (λ r. eqb r.var x) s

-- what f puts for variables is what it makes of their terms under a replacement
abbrev pub Factors : {V : Type 0} → (ℕ → Tree V) → Replacement → Type 0
Factors f s = (v : ℕ) → f v ≡ fill f (image s v)

-- what the solver answers is a unifier of its equations
abbrev pub AnswerUnifies : Type 0
AnswerUnifies =
    (left : ℕ → ℕ → Bool) (es : List Equation) (s : Replacement) → solve_by left es ≡ Some s →
    Unifies (image s) es

-- equations with a unifier by ground terms have an answer, through which the unifier factors: it is
-- a most general one
abbrev pub AnswerMostGeneral : Type 0
AnswerMostGeneral =
    (left : ℕ → ℕ → Bool) (es : List Equation) (f : ℕ → Gd) → Unifies f es → (s : Replacement)
    × (solve_by left es ≡ Some s) × Factors f s

-- what factors through an answer is a unifier
abbrev pub FactorsUnify : Type 0
FactorsUnify =
    (left : ℕ → ℕ → Bool) (es : List Equation) (s : Replacement) (f : ℕ → Gd) → solve_by left es
    ≡ Some s → Factors f s → Unifies f es

-- a replaced variable stands in no term under the answer
abbrev pub ReplacedIsGone : Type 0
ReplacedIsGone =
    (left : ℕ → ℕ → Bool) (es : List Equation) (s : Replacement) (x : ℕ) (t : Tm) → solve_by left es
    ≡ Some s → replaces s x ≡ true → occurs x (apply s t) ≡ false

-- so an answer that is applied twice gives what it gave at once
abbrev pub AppliedTwice : Type 0
AppliedTwice =
    (left : ℕ → ℕ → Bool) (es : List Equation) (s : Replacement) (t : Tm) → solve_by left es
    ≡ Some s → apply s (apply s t) ≡ apply s t
