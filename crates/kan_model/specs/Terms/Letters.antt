-- Terms as lists of letters in preorder.
use Rattle.std.specs.Prelude.{◌≡◌, ℕ, Bool, true, false, eqb, List, [], ◌∷◌, ◌++◌, Option, Some}
use Rattle.std.specs.Prelude.{None}
use Rattle.std.specs.Ordering.{int_eq}
use Rattle.std.specs.Borrow.{Bor}
use Rattle.kan_terms.specs.Tree.{Tree, Tm, bool_eq}
use Rattle.kan_terms.specs.Terms.{tree}
use Rattle.kan_terms.specs.declared.terms.Term.{Term}
use Rattle.kan_model.specs.Stores.Solve.{Replacement, image}
use Rattle.kan_model.specs.declared.letters.Letter.{Letter}
use Rattle.kan_model.specs.declared.letters.Letter.TheVariants.{Pair, Var, Sym, Str, Num, Truth}
use Rattle.kan_model.specs.declared.letters.Letter.TheVariants.{Nil}

-- the first letter of a term
abbrev pub letter_of : Tm → Letter
letter_of (Tree.leaf v) = Var v
letter_of (Tree.sym s) = Sym s
letter_of (Tree.str s) = Str s
letter_of (Tree.num n) = Num n
letter_of (Tree.truth b) = Truth b
letter_of Tree.nil = Nil
letter_of (Tree.pair a b) = Pair

-- the letters of a term
abbrev pub spelling : Tm → List Letter
spelling (Tree.leaf v) = Var v ∷ []
spelling (Tree.sym s) = Sym s ∷ []
spelling (Tree.str s) = Str s ∷ []
spelling (Tree.num n) = Num n ∷ []
spelling (Tree.truth b) = Truth b ∷ []
spelling Tree.nil = Nil ∷ []
spelling (Tree.pair a b) = Pair ∷ spelling a ++ spelling b

-- the letters of the terms on a stack, the top first
abbrev pub waiting_spelling : List (Bor Term) → List Letter
waiting_spelling [] = []
waiting_spelling (t ∷ ts) = waiting_spelling ts ++ spelling (tree t.now)

-- a pair of the first two terms of a list
abbrev pub join_two : List Tm → Option (List Tm)
join_two [] = None
join_two (a ∷ []) = None
join_two (a ∷ b ∷ rest) = Some (Tree.pair a b ∷ rest)

-- a letter in front of terms: a pair takes the first two of them
abbrev pub put_letter : Letter → List Tm → Option (List Tm)
put_letter (Var v) ts = Some (Tree.leaf v ∷ ts)
put_letter (Sym s) ts = Some (Tree.sym s ∷ ts)
put_letter (Str s) ts = Some (Tree.str s ∷ ts)
put_letter (Num n) ts = Some (Tree.num n ∷ ts)
put_letter (Truth b) ts = Some (Tree.truth b ∷ ts)
put_letter Nil ts = Some (Tree.nil ∷ ts)
put_letter Pair ts = join_two ts

abbrev pub put_letter_on : Letter → Option (List Tm) → Option (List Tm)
put_letter_on x None = None
put_letter_on x (Some ts) = put_letter x ts

-- the terms that letters spell in front of others
abbrev pub built_from : List Letter → List Tm → Option (List Tm)
built_from [] ts = Some ts
built_from (x ∷ xs) ts = put_letter_on x (built_from xs ts)

-- the only term of a list
abbrev pub only_one : Option (List Tm) → Option Tm
only_one (Some (t ∷ [])) = Some t
only_one _ = None

-- the one term that letters spell
abbrev pub term_of : List Letter → Option Tm
term_of letters = only_one (built_from letters [])

-- the terms on a stack, the top first
abbrev pub stack_terms : List Term → List Tm
stack_terms [] = []
stack_terms (t ∷ ts) = stack_terms ts ++ tree t ∷ []

-- a letter's term, and none for a pair
abbrev pub IsAtomOf : Letter → Option Tm → Type 0
IsAtomOf x None = x ≡ Pair
IsAtomOf x (Some t) = (ts : List Tm) → put_letter x ts ≡ Some (t ∷ ts)

-- the letter is this variable
abbrev pub is_letter_of : ℕ → Letter → Bool
is_letter_of x (Var v) = eqb x v
is_letter_of x _ = false

-- two letters are the same
abbrev pub letter_eq : Letter → Letter → Bool
letter_eq Pair Pair = true
letter_eq (Var v) other = is_letter_of v other
letter_eq (Sym s) (Sym r) = eqb r s
letter_eq (Str s) (Str r) = eqb r s
letter_eq (Num n) (Num m) = int_eq m n
letter_eq (Truth b) (Truth c) = bool_eq c b
letter_eq Nil Nil = true
letter_eq _ _ = false

-- the letters that stand for a letter, where variables are replaced
abbrev pub splice : Replacement → Letter → List Letter
splice s (Var v) = spelling (image s v)
splice s letter = letter ∷ []
