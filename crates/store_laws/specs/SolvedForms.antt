-- One solved form for equations of the same unifiers.
use Rattle.std.specs.Prelude.{◌≡◌, ◌↔◌, ◌<◌, ◌⊎◌, ℕ, Bool, nat_lt, List, map, Option, Some, None}
use Rattle.std.specs.Prelude.{option_map}
use Rattle.kan_terms.specs.Tree.{Tree, Gd}
use Rattle.kan_model.specs.Stores.Store.{Store, Equation}
use Rattle.kan_model.specs.Stores.Solve.{Replacement, image, solve_by, solve_store}
use Rattle.kan_model.specs.Stores.Composition.{apply_sides}
use Rattle.kan_model.specs.Stores.Unifiers.{Unifies}
use Rattle.kan_model.specs.Answers.Answer.{ranks_lower, solved_form, in_rank, all_named}
use Rattle.kan_model.specs.Stores.Calls.{SaysTheSame}

-- of two variables the one of the lower rank is replaced
abbrev pub lower_first : (ℕ → ℕ) → ℕ → ℕ → Bool
lower_first rank x y = nat_lt (rank x) (rank y)

-- no two variables have one rank
abbrev pub RanksApart : (ℕ → ℕ) → Type 0
RanksApart rank = (x y : ℕ) → rank x ≡ rank y → x ≡ y

-- the same valuations make the equations hold
abbrev pub SameUnifiers : List Equation → List Equation → Type 0
SameUnifiers es fs = (f : ℕ → Gd) → Unifies f es ↔ Unifies f fs

-- no answer at all, or two that make the same of each variable
abbrev pub SameImages : Option Replacement → Option Replacement → Type 0
SameImages None None = Unit {0}
SameImages (Some s) (Some r) = (v : ℕ) → image s v ≡ image r v
SameImages _ _ = ⊥

-- equations of the same unifiers are solved alike, whatever order the variables are in
abbrev pub OneSolvedForm : Type 0
OneSolvedForm =
    (rank : ℕ → ℕ) (es fs : List Equation) → RanksApart rank → SameUnifiers es fs →
    SameImages (solve_by (lower_first rank) es) (solve_by (lower_first rank) fs)

-- the same of the order by names
abbrev pub OneNamedForm : Type 0
OneNamedForm =
    (vs : List ℕ) (es fs : List Equation) → SameUnifiers es fs →
    SameImages (solve_by (ranks_lower vs) es) (solve_by (ranks_lower vs) fs)

-- a variable is sent to itself or to a variable of a higher rank, or to no variable
abbrev pub SendsHigher : (ℕ → ℕ) → Replacement → Type 0
SendsHigher rank s = (x y : ℕ) → image s x ≡ Tree.leaf y → (x ≡ y) ⊎ (rank x < rank y)

abbrev pub AnswerSendsHigher : Type 0
AnswerSendsHigher =
    (rank : ℕ → ℕ) (es : List Equation) (s : Replacement) → RanksApart rank →
    solve_by (lower_first rank) es ≡ Some s → SendsHigher rank s

-- What a store says of a disequality, solved under its answer, is the disequality's solved form.
abbrev pub DifferenceForm : Type 0
DifferenceForm =
    (vs : List ℕ) (st : Store) (s : Replacement) (e : Equation) (pairs : List Equation) →
    solve_store st ≡ Some s → SaysTheSame st e pairs →
    SameImages (solve_by (ranks_lower vs) (map (apply_sides s) pairs))
    (solved_form vs s e.left e.right)

-- Equations of the same unifiers have the same form, pair by pair, once the pairs are in the order
-- of their variables.
abbrev pub OneFormInRank : Type 0
OneFormInRank =
    (vs : List ℕ) (es fs : List Equation) → SameUnifiers es fs →
    option_map (in_rank vs) (solve_by (ranks_lower vs) es)
    ≡ option_map (in_rank vs) (solve_by (ranks_lower vs) fs)

-- The pairs that a store says of a disequality have the disequality's form.
abbrev pub DifferenceInRank : Type 0
DifferenceInRank =
    (vs : List ℕ) (st : Store) (s : Replacement) (e : Equation) (pairs : List Equation) →
    solve_store st ≡ Some s → SaysTheSame st e pairs →
    option_map (in_rank vs) (solve_by (ranks_lower vs) (map (apply_sides s) pairs))
    ≡ option_map (in_rank vs) (solved_form vs s e.left e.right)

-- whether all is named doesn't hang on the order
abbrev pub NamedInRank : Type 0
NamedInRank = (vs : List ℕ) (s : Replacement) → all_named vs (in_rank vs s) ≡ all_named vs s
