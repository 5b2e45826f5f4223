-- Answers in form: those that are written in just one way.
use Rattle.std.specs.Prelude.{◌≡◌, ℕ, suc, ◌<◌, ◌^◌, pos, negsuc, Bool, true, false, ◌&&◌, not, eqb}
use Rattle.std.specs.Prelude.{nat_lt, List, [], ◌∷◌, ◌++◌, length, map, Some}
use Rattle.std.specs.List.{list_all, list_any}
use Rattle.kan_terms.specs.Tree.{Tree, Tm, occurs, term_eq}
use Rattle.kan_model.specs.Stores.Store.{Store, Equation}
use Rattle.kan_model.specs.Stores.Solve.{Replacement, solve_by}
use Rattle.kan_model.specs.Stores.Kept.{is_kept}
use Rattle.kan_model.specs.Answers.Order.{stands_in}
use Rattle.kan_model.specs.Programs.Scope.{all_below}
use Rattle.kan_terms.specs.Table.{Table}
use Rattle.kan_model.specs.Answers.Text.{symbol_text}
use Rattle.kan_model.specs.Answers.Answer.{NamedPair, Absence, Answer, named_variables, tag_le}
use Rattle.kan_model.specs.Answers.Answer.{tags_of}
use Rattle.kan_model.specs.Answers.AnswerText.{difference_le, answer_of}

-- numbers that count up from n
abbrev pub counts_up : ℕ → List ℕ → Bool
counts_up n [] = true
counts_up n (v ∷ vs) = eqb n v && counts_up (suc n) vs

-- each element stands in the given relation to the one behind it
abbrev pub ascends : {X : Type 0} → (X → X → Bool) → List X → Bool
ascends before [] = true
ascends before (x ∷ []) = true
ascends before (x ∷ y ∷ ys) = before x y && ascends before (y ∷ ys)

-- how many names an answer has
abbrev pub name_count : Answer → ℕ
name_count a = length (named_variables a.term)

-- a name that replaces another one has the greater number; any other term may replace a name
abbrev pub replaces_lower : ℕ → Tm → Bool
replaces_lower name (Tree.leaf v) = nat_lt name v
replaces_lower name _ = true

-- a pair is over the first n names
abbrev pub pair_in_form : ℕ → NamedPair → Bool
pair_in_form n p = nat_lt p.name n && all_below n p.by && replaces_lower p.name p.by

-- the name that a pair replaces stands in none of the terms
abbrev pub is_replaced : List NamedPair → NamedPair → Bool
is_replaced ps p = list_all (λ r. not (occurs p.name r.by)) ps

abbrev pub name_before : NamedPair → NamedPair → Bool
name_before p r = nat_lt p.name r.name

abbrev pub is_filled : {X : Type 0} → List X → Bool
is_filled [] = false
is_filled (x ∷ xs) = true

-- a disequality in form: a solved form over the first n names, with at least one pair
abbrev pub difference_in_form : ℕ → List NamedPair → Bool
difference_in_form n ps =
    is_filled ps && list_all (pair_in_form n) ps && list_all (is_replaced ps) ps
    && ascends name_before ps

abbrev pub equal_pairs : List NamedPair → List NamedPair → Bool
equal_pairs [] [] = true
equal_pairs (p ∷ ps) (r ∷ rs) = eqb p.name r.name && term_eq p.by r.by && equal_pairs ps rs
equal_pairs _ _ = false

-- no two disequalities are equal
abbrev pub all_different : List (List NamedPair) → Bool
all_different [] = true
all_different (d ∷ ds) = not (list_any (equal_pairs d) ds) && all_different ds

-- the first n names at most, each once and in order
abbrev pub names_in_form : ℕ → List ℕ → Bool
names_in_form n names = list_all (λ v. nat_lt v n) names && ascends nat_lt names

-- neither list has an element of the other one
abbrev pub apart : List ℕ → List ℕ → Bool
apart xs ys = list_all (λ x. not (stands_in ys x)) xs

-- an absence has a name, and none of these, which are numbers or strings
abbrev pub absence_in_form : ℕ → List ℕ → Absence → Bool
absence_in_form n others a = is_filled a.names && names_in_form n a.names && apart a.names others

-- a tag's bytes come before those of another one
abbrev pub tag_before : Table → Absence → Absence → Bool
tag_before table a b = tag_le table a b && not (tag_le table b a)

-- an answer in form
abbrev pub in_form : Table → Answer → Bool
in_form table a =
    counts_up 0 (named_variables a.term)
    && list_all (difference_in_form (name_count a)) a.disequalities && all_different a.disequalities
    && ascends (difference_le table) a.disequalities
    && names_in_form (name_count a) a.numbers && names_in_form (name_count a) a.symbols
    && names_in_form (name_count a) a.strings
    && apart a.numbers a.symbols && apart a.strings a.symbols && apart a.numbers a.strings
    && list_all (absence_in_form (name_count a) (a.numbers ++ a.strings)) a.absences
    && ascends (tag_before table) a.absences

-- the numbers in a tree fit in 128 bits
abbrev pub numbers_fit : {V : Type 0} → Tree V → Bool
numbers_fit (Tree.num (pos n)) = nat_lt n (2 ^ 127)
numbers_fit (Tree.num (negsuc n)) = nat_lt n (2 ^ 127)
numbers_fit (Tree.pair a b) = numbers_fit a && numbers_fit b
numbers_fit _ = true

-- an answer in form that a line can be read back as: all its numbers fit
abbrev pub is_readable : Table → Answer → Bool
is_readable table a =
    in_form table a && numbers_fit a.term
    && list_all (list_all (λ p. numbers_fit p.by)) a.disequalities

-- the pairs of a disequality as equations, and as a replacement
abbrev pub pair_equations : List NamedPair → List Equation
pair_equations = map (λ p. record { left = Tree.leaf p.name; right = p.by })

abbrev pub pair_replacement : List NamedPair → Replacement
pair_replacement = map (λ p. record { var = p.name; by = p.by })

-- a disequality in form is its own solved form
abbrev pub FormIsSolved : Type 0
FormIsSolved =
    (n : ℕ) (ps : List NamedPair) → difference_in_form n ps ≡ true →
    solve_by nat_lt (pair_equations ps) ≡ Some (pair_replacement ps)

-- no two symbols of a table have one text
abbrev pub TextsDiffer : Table → Type 0
TextsDiffer table =
    (r s : ℕ) → r < length table.symbols → s < length table.symbols → symbol_text table r
    ≡ symbol_text table s → r ≡ s

-- the answer of a kept store whose tags have texts in the table is in form
abbrev pub AnswerInForm : Type 0
AnswerInForm =
    (table : Table) (st : Store) → TextsDiffer table →
    list_all (λ tag. nat_lt tag (length table.symbols)) (tags_of st.prims) ≡ true →
    is_kept st ≡ true → in_form table (answer_of table st) ≡ true
