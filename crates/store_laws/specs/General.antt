-- Most general unifiers: which replacements answer as the solver does, and that constraints hold
-- under all of them or under none.
use Rattle.std.specs.Prelude.{◌≡◌, ℕ, Bool, List, ◌++◌, map, filter, Some, option_map}
use Rattle.kan_terms.specs.Tree.{Tm}
use Rattle.kan_model.specs.Programs.Goals.{Primitive}
use Rattle.kan_model.specs.Stores.Store.{Store, Equation, equations}
use Rattle.kan_model.specs.Stores.Solve.{Replacement, image, solve_by, solve_store}
use Rattle.kan_model.specs.Stores.Composition.{apply_sides}
use Rattle.kan_model.specs.Stores.Unifiers.{Unifies, Factors}
use Rattle.kan_model.specs.Stores.Kept.{holds_under, holds_with, is_kept}
use Rattle.kan_model.specs.Answers.Answer.{can_be_equal, is_no_difference}
use Rattle.kan_model.specs.Stores.Calls.{SaysTheSame}
use Rattle.kan_model.specs.Stores.Composition.{compose}
use Rattle.store_laws.specs.SolvedForms.{lower_first, RanksApart, SameUnifiers, SendsHigher}

-- a unifier through which each unifier factors
pub record IsGeneral (es : List Equation) (s : Replacement) : Type 0 where
  pub unifies : Unifies (image s) es
  pub factors : (f : ℕ → Tm) → Unifies f es → Factors f s

-- what the solver answers, in whatever order of variables
abbrev pub AnswerIsGeneral : Type 0
AnswerIsGeneral =
    (left : ℕ → ℕ → Bool) (es : List Equation) (s : Replacement) → solve_by left es ≡ Some s →
    IsGeneral es s

-- of equations in two pieces
abbrev pub ComposedIsGeneral : Type 0
ComposedIsGeneral =
    (es fs : List Equation) (s r : Replacement) → IsGeneral es s →
    IsGeneral (map (apply_sides s) fs) r → IsGeneral (es ++ fs) (compose s r)

-- of other equations of the same unifiers
abbrev pub GeneralForOthers : Type 0
GeneralForOthers =
    (es fs : List Equation) (s : Replacement) → SameUnifiers es fs → IsGeneral es s → IsGeneral fs s

-- constraints hold under every most general unifier, or under none
abbrev pub HoldUnderAll : Type 0
HoldUnderAll =
    (es : List Equation) (s r : Replacement) (ps : List (Primitive Tm)) → IsGeneral es s →
    IsGeneral es r → holds_under ps s ≡ holds_under ps r

-- so a store is kept exactly where its constraints hold under any one of them
abbrev pub KeptUnderGeneral : Type 0
KeptUnderGeneral =
    (st : Store) (s : Replacement) → IsGeneral (equations st.prims) s → is_kept st
    ≡ holds_under st.prims s

-- Two sides can be equal exactly where the rest holds once the pairs that say the same are solved
-- under the answer, in whatever order.
abbrev pub PairsCanBeEqual : Type 0
PairsCanBeEqual =
    (left : ℕ → ℕ → Bool) (st : Store) (s : Replacement) (e : Equation) (pairs : List Equation) →
    solve_store st ≡ Some s → SaysTheSame st e pairs →
    can_be_equal st e.left e.right
    ≡ holds_with (filter is_no_difference st.prims)
    (option_map (compose s) (solve_by left (map (apply_sides s) pairs)))

-- a most general unifier that sends variables to none but higher ones makes of each variable what
-- the solver does in this order
abbrev pub GeneralIsTheForm : Type 0
GeneralIsTheForm =
    (rank : ℕ → ℕ) (es : List Equation) (s r : Replacement) → RanksApart rank → IsGeneral es s →
    SendsHigher rank s → solve_by (lower_first rank) es ≡ Some r →
    (v : ℕ) → image s v ≡ image r v
