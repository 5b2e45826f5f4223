-- Why an answer may leave out some of its store's disequalities, by the five cases in which it
-- does.
use Rattle.std.specs.Prelude.{◌≡◌, ◌≢◌, ℕ, Bool, true, false, not, List, filter, Some, None}
use Rattle.std.specs.Prelude.{Contains}
use Rattle.std.specs.List.{list_all}
use Rattle.kan_terms.specs.Tree.{Tm, Gd, fill, ground_eq}
use Rattle.kan_terms.specs.Valuations.{value_at, value}
use Rattle.kan_model.specs.Answers.Answer.{solved_form, all_named, is_no_difference, can_be_equal}
use Rattle.kan_model.specs.Answers.Answer.{is_weaker, same_form}
use Rattle.kan_model.specs.Answers.Order.{each_once, place_of, stands_in}
use Rattle.kan_model.specs.Meaning.Holds.{IsSolution}
use Rattle.kan_model.specs.Stores.Solve.{Replaced, Replacement, apply}
use Rattle.kan_model.specs.Stores.Store.{Store, Equation}

-- values for variables make the two sides different under an answer
abbrev pub SidesDiffer : (ℕ → Gd) → Replacement → Equation → Type 0
SidesDiffer f s e = fill f (apply s e.left) ≢ fill f (apply s e.right)

-- sides without a solved form differ whatever values the variables have
abbrev pub NeverEqual : Type 0
NeverEqual =
    (vs : List ℕ) (s : Replacement) (e : Equation) (f : ℕ → Gd) → solved_form vs s e.left e.right
    ≡ None → SidesDiffer f s e

-- the variables of names have these values
abbrev pub HasNamedValues : List ℕ → List Gd → (ℕ → Gd) → Type 0
HasNamedValues vs named f = (v : ℕ) → stands_in vs v ≡ true → f v ≡ value_at named (place_of vs v)

-- the form of a disequality mentions an unnamed variable
abbrev pub MentionsUnnamed : List ℕ → Replacement → Equation → Type 0
MentionsUnnamed vs s e =
    (form : Replacement) × (solved_form vs s e.left e.right ≡ Some form)
    × (all_named vs form ≡ false)

-- whatever values the named variables have, the others have some under which all sides differ whose
-- forms mention an unnamed variable
abbrev pub UnnamedCanDiffer : Type 0
UnnamedCanDiffer =
    (vs : List ℕ) (named : List Gd) (s : Replacement) (es : List Equation) →
    (f : ℕ → Gd) × HasNamedValues vs named f
    × ((e : Equation) → Contains es e → MentionsUnnamed vs s e → SidesDiffer f s e)

-- the store without its disequalities
abbrev pub without_differences : Store → Store
without_differences st = record { prims = filter is_no_difference st.prims; counter = st.counter }

-- sides that can't be equal in a store differ where all but its disequalities holds
abbrev pub ExcludedDiffer : Type 0
ExcludedDiffer =
    (st : Store) (a b : Tm) (us : List Gd) → can_be_equal st a b ≡ false →
    IsSolution (without_differences st) us → value us a ≢ value us b

-- a form fails, and its disequality holds, where a replaced variable hasn't the value of its term
abbrev pub pair_holds : List Gd → Replaced → Bool
pair_holds us p = ground_eq (value_at us p.var) (value us p.by)

abbrev pub fails : List Gd → Replacement → Bool
fails us form = not (list_all (pair_holds us) form)

-- where the forms fail that no other one makes needless, all fail
abbrev pub WeakerSayNothing : Type 0
WeakerSayNothing =
    (us : List Gd) (forms : List Replacement) →
    list_all (fails us) (filter (λ form. not (is_weaker forms form)) forms)
    ≡ list_all (fails us) forms

-- and where the forms fail each of which is taken once
abbrev pub EqualSayNothing : Type 0
EqualSayNothing =
    (us : List Gd) (forms : List Replacement) → list_all (fails us) (each_once same_form forms)
    ≡ list_all (fails us) forms
