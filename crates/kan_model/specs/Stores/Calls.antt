-- What the calls of a store answer.
use Rattle.std.specs.Prelude.{◌≡◌, ℕ, Bool, true, false, List, [], ◌∷◌, Option, Some, None, ◌↔◌}
use Rattle.std.specs.Prelude.{Contains, unwrap_or, is_some, if◌then◌else◌}
use Rattle.std.specs.List.{list_all}
use Rattle.kan_terms.specs.Tree.{Tree, Tm, Gd, ground_eq}
use Rattle.kan_terms.specs.Valuations.{value}
use Rattle.kan_model.specs.Programs.Goals.{Primitive}
use Rattle.kan_model.specs.Stores.Store.{Store, Equation, equations}
use Rattle.kan_model.specs.Stores.Solve.{Replacement, image, apply, solve, solve_store}
use Rattle.kan_model.specs.Stores.Kept.{is_kept, has_type}
use Rattle.kan_model.specs.Answers.Answer.{has_absence, same_form}
use Rattle.kan_model.specs.declared.prims.Kind.{Kind}
use Rattle.kan_model.specs.declared.prims.Kind.TheVariants.{Symbol, Number, Text}

-- the store where it is kept, and none exactly where it isn't
abbrev pub Gives : Store → Option Store → Type 0
Gives st None = is_kept st ≡ false
Gives st (Some new) = (is_kept st ≡ true) × (new ≡ st)

-- the answer of a kept store's equations
abbrev pub replacement_of : Store → Replacement
replacement_of st = unwrap_or (solve_store st) []

-- the primitive is an equation
abbrev pub is_equation : Primitive Tm → Bool
is_equation (Primitive.same a b) = true
is_equation _ = false

-- a term is found for an image: the image itself, or a pair that the answer makes it
abbrev pub IsFoundFor : Replacement → Tm → Tm → Type 0
IsFoundFor s (Tree.pair a b) (Tree.pair c d) = apply s (Tree.pair c d) ≡ Tree.pair a b
IsFoundFor s (Tree.pair a b) _ = ⊥
IsFoundFor s t found = found ≡ t

-- a variable is walked to what is found for its image, and all else to itself
abbrev pub WalksTo : Replacement → Tm → Tm → Type 0
WalksTo s (Tree.leaf v) found = IsFoundFor s (image s v) found
WalksTo s t found = found ≡ t

-- the variable walks to itself
abbrev pub IsFree : Store → ℕ → Type 0
IsFree st v = image (replacement_of st) v ≡ Tree.leaf v

-- the type that a variable has, where it has one
abbrev pub kind_at : Store → ℕ → Option Kind
kind_at st v =
    if has_type Symbol (replacement_of st) st.prims v then Some Symbol
    else (if has_type Number (replacement_of st) st.prims v then Some Number
    else (if has_type Text (replacement_of st) st.prims v then Some Text else None))

-- the tags whose absence a variable has
abbrev pub AreTags : Store → ℕ → List ℕ → Type 0
AreTags st v tags =
    (tag : ℕ) → Contains tags tag ↔ (has_absence (replacement_of st) st.prims tag v ≡ true)

-- all equations hold under a valuation
abbrev pub all_equal : List Gd → List Equation → Bool
all_equal us = list_all (λ e. ground_eq (value us e.left) (value us e.right))

-- the disequalities, as equations of their sides
abbrev pub differences : List (Primitive Tm) → List Equation
differences [] = []
differences (Primitive.differ a b ∷ ps) = record { left = a; right = b } ∷ differences ps
differences (p ∷ ps) = differences ps

-- the sides can still be made equal under the answer
abbrev pub can_unify : Replacement → Equation → Bool
can_unify s e = is_some (solve (record { left = apply s e.left; right = apply s e.right } ∷ []))

-- where the store's equations hold, the pairs are all equal exactly where the two sides are
abbrev pub SaysTheSame : Store → Equation → List Equation → Type 0
SaysTheSame st e pairs =
    (us : List Gd) → all_equal us (equations st.prims) ≡ true → all_equal us pairs
    ≡ ground_eq (value us e.left) (value us e.right)

-- lists of pairs for disequalities, in their order; one whose sides can't become equal may be left
-- out
pub data AreDifferences (st : Store) : List Equation → List (List Equation) → Type 0 where
  no_more : AreDifferences st [] []
  listed : {e : Equation} {es : List Equation} {pairs : List Equation}
      {lists : List (List Equation)} →
      SaysTheSame st e pairs → AreDifferences st es lists →
      AreDifferences st (e ∷ es) (pairs ∷ lists)
  left_out : {e : Equation} {es : List Equation} {lists : List (List Equation)} →
      can_unify (replacement_of st) e ≡ false → AreDifferences st es lists →
      AreDifferences st (e ∷ es) lists

-- the replacement is the answer
abbrev pub is_answer : Replacement → Option Replacement → Bool
is_answer s None = false
is_answer s (Some r) = same_form s r
