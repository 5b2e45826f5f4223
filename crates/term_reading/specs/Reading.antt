-- Shapes and terms at the front of a text.
use Rattle.std.specs.Prelude.{◌≡◌, ℕ, zero, suc, Bool, true, false, ◌&&◌, ◌||◌, not, nat_lt, ◌==◌}
use Rattle.std.specs.Prelude.{if◌then◌else◌, List, [], ◌∷◌, ◌++◌}
use Rattle.std.specs.List.{list_all}
use Rattle.kan_model.specs.Answers.InForm.{is_filled}
use Rattle.kan_terms.specs.Table.{Table}
use Rattle.reify.specs.declared.shaping.Shape.{Shape}
use Rattle.reify.specs.declared.shaping.Shape.TheVariants.{Pair, Name, Sym, Num, Truth, Nil}
use Rattle.kan_model.specs.Answers.Text.{truth_text}
use Rattle.reify.specs.Printing.{atom_text, element_text, rest_text}
use Rattle.reify.specs.Shapes.{spells}
use Rattle.term_reading.specs.declared.shapes.Lead.{Lead}
use Rattle.term_reading.specs.declared.shapes.Lead.TheVariants as fronts
use Rattle.term_reading.specs.declared.shapes.Step.{Step}
use Rattle.term_reading.specs.declared.shapes.Step.TheVariants as turns
use Rattle.term_reading.specs.Words.{Continues, ends, is_fine}

-- what an element begins with
abbrev pub front : List ℕ → Lead
front [] = fronts.Word
front (b ∷ bs) =
    if b == 40 then fronts.Bracket
    else (if b == 35 then fronts.Hash else (if b == 34 then fronts.Mark else fronts.Word))

-- what comes behind an element
abbrev pub turn : List ℕ → Step
turn [] = turns.Close
turn (a ∷ []) = if a == 32 then turns.Next else turns.Close
turn (a ∷ b ∷ []) = if a == 32 then turns.Next else turns.Close
turn (a ∷ b ∷ c ∷ cs) =
    if a == 32 then (if b == 46 && c == 32 then turns.Dot else turns.Next) else turns.Close

-- a text goes on neither with the close of a list nor with a point alone
abbrev pub begins_element : List ℕ → Bool
begins_element [] = true
begins_element (b ∷ []) = not (b == 41)
begins_element (b ∷ c ∷ cs) = not (b == 41) && not (b == 46 && c == 32)

-- what may come behind a shape, which is an element or stands behind one
abbrev pub follows : Bool → Shape → List ℕ → Bool
follows element Pair more = begins_element more
follows true (Name n) more = ends more
follows true (Sym s) more = ends more
follows true (Num z) more = ends more
follows element x more = true

-- the text of a shape as an element, or behind one
abbrev pub shape_text : Table → Bool → Shape → List ℕ
shape_text table true = element_text table
shape_text table false = rest_text table

abbrev pub is_pair : Shape → Bool
is_pair Pair = true
is_pair _ = false

abbrev pub one_less : ℕ → ℕ
one_less zero = zero
one_less (suc n) = n

-- how many lists are unclosed behind a shape, by whether it is an element, and whether a pair
abbrev pub unclosed_after : ℕ → Bool → Bool → ℕ
unclosed_after n true true = suc n
unclosed_after n true false = n
unclosed_after n false true = n
unclosed_after n false false = one_less n

-- the text of shapes, the first of which is an element or stands behind one in the last of so many
-- unclosed lists
abbrev pub text_from : Table → Bool → ℕ → List Shape → List ℕ
text_from table element n [] = []
text_from table true n (x ∷ xs) =
    element_text table x ++ text_from table (is_pair x) (unclosed_after n true (is_pair x)) xs
text_from table false zero (x ∷ xs) = []
text_from table false (suc n) (x ∷ xs) =
    rest_text table x ++ text_from table (is_pair x) (unclosed_after (suc n) false (is_pair x)) xs

-- where these bytes begin with the text of a shape, it is this one, and this is left
abbrev pub GetsShape : Table → Bool → List ℕ → Shape → List ℕ → Type 0
GetsShape new element bytes shape left =
    (table : Table) → Continues new table → (x : Shape) (more : List ℕ) → is_fine table x ≡ true →
    follows element x more ≡ true →
    bytes ≡ shape_text table element x ++ more → (shape ≡ x) × (left ≡ more)

-- and the same of a term
abbrev pub GetsTerm : Table → List ℕ → List Shape → List ℕ → Type 0
GetsTerm new bytes shapes left =
    (table : Table) → Continues new table → (xs : List Shape) (more : List ℕ) → spells 1 xs ≡ true →
    list_all (is_fine table) xs ≡ true → ends more ≡ true →
    bytes ≡ text_from table true 0 xs ++ more → (shapes ≡ xs) × (left ≡ more)

-- behind the first bracket of a list: the empty one, or what goes on
abbrev pub GetsBegun : List ℕ → Shape → List ℕ → Type 0
GetsBegun bytes shape left =
    ((more : List ℕ) → begins_element more ≡ true → bytes ≡ more → (shape ≡ Pair) × (left ≡ more))
    × ((more : List ℕ) → bytes ≡ 41 ∷ more → (shape ≡ Nil) × (left ≡ more))

-- behind a number sign: a truth value
abbrev pub GetsTruth : List ℕ → Shape → List ℕ → Type 0
GetsTruth bytes shape left =
    (b : Bool) (more : List ℕ) → 35 ∷ bytes ≡ truth_text b ++ more → (shape ≡ Truth b)
    × (left ≡ more)

-- a shape is no pair
abbrev pub is_atom : Shape → Bool
is_atom Pair = false
is_atom _ = true

-- behind a point: the last part of a list, and its close
abbrev pub GetsDotted : Table → List ℕ → Shape → List ℕ → Type 0
GetsDotted new bytes shape left =
    (table : Table) → Continues new table → (x : Shape) (more : List ℕ) → is_atom x ≡ true →
    is_fine table x ≡ true →
    bytes ≡ atom_text table x ++ 41 ∷ more → (shape ≡ x) × (left ≡ more)

-- a shape is wanted, and something is left
abbrev pub is_unfinished : Bool → ℕ → List ℕ → Bool
is_unfinished element n rest = (element || nat_lt 0 n) && is_filled rest
