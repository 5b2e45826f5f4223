-- The marks of ground terms: what they tell of the term, and those of templates that wait on a
-- stack.
use Rattle.std.specs.Prelude.{◌≡◌, ◌<◌, ℕ, Bool, true, false, eqb, List, [], ◌∷◌, ◌++◌, length}
use Rattle.std.specs.Ordering.{int_eq}
use Rattle.kan_terms.specs.Tree.{Gd, bool_eq}
use Rattle.kan_terms.specs.Spelling.{spelling}
use Rattle.kan_terms.specs.Valuations.{value}
use Rattle.kan_terms.specs.declared.marks.Mark.{Mark}
use Rattle.kan_terms.specs.declared.marks.Mark.TheVariants.{Pair, Sym, Str, Num, Truth, Nil}
use Rattle.kan_model.specs.Programs.Closed as programs
use Rattle.kan_model.specs.declared.program.Program.{Program}

-- the value of the template at a place
abbrev pub value_of : Program → List Gd → ℕ → Gd
value_of p us at = value us (programs.template p at)

-- the marks of the values of templates on a stack, the top first
abbrev pub waiting_marks : (ℕ → Gd) → List ℕ → List Mark
waiting_marks f [] = []
waiting_marks f (at ∷ more) = waiting_marks f more ++ spelling (f at)

-- a term's marks are put behind others, but for those of templates that are put on the stack
abbrev pub Puts : (ℕ → Gd) → Gd → List Mark → List Mark → List ℕ → List ℕ → Type 0
Puts f u old new waiting more =
    (new ++ waiting_marks f more ≡ old ++ (spelling u ++ waiting_marks f waiting))
    × (length old < length new)

-- two marks are the same
abbrev pub mark_eq : Mark → Mark → Bool
mark_eq Pair Pair = true
mark_eq (Sym s) (Sym r) = eqb r s
mark_eq (Str s) (Str r) = eqb r s
mark_eq (Num n) (Num m) = int_eq m n
mark_eq (Truth b) (Truth c) = bool_eq c b
mark_eq Nil Nil = true
mark_eq _ _ = false

-- the first mark is that of a symbol, a number, a string
abbrev pub begins_symbol : List Mark → Bool
begins_symbol (Sym s ∷ more) = true
begins_symbol _ = false

abbrev pub begins_number : List Mark → Bool
begins_number (Num n ∷ more) = true
begins_number _ = false

abbrev pub begins_string : List Mark → Bool
begins_string (Str s ∷ more) = true
begins_string _ = false

-- the mark is that of this symbol
abbrev pub is_tag : ℕ → Mark → Bool
is_tag tag (Sym s) = eqb tag s
is_tag tag _ = false
