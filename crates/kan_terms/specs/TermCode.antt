-- Reading a term back from its letters, by which terms are stored as lists.
use Rattle.std.specs.Prelude.{◌≡◌, ℕ, ℤ, ◌⊎◌, Bool, true, false, List, [], ◌∷◌, ◌++◌, refl}
use Rattle.std.specs.Coded.{Coded, code_by, coded⊎, coded×, coded_ℕ, coded_ℤ, coded_bool}
use Rattle.std.specs.Coded.{coded_list}
use Rattle.std.proofs.Common.{◌∙◌, ap, sym, inl, inr, append_assoc}
use Rattle.std.proofs.lemmas.List.{append-nil}
use Rattle.kan_terms.specs.Tree.{Tree, Tm, join_two, first_tree}

-- a letter: a variable, a symbol or a string, a number or a truth value, a pair or the empty list
abbrev pub Letter : Type 0
Letter = (ℕ ⊎ (ℕ ⊎ ℕ)) ⊎ ((ℤ ⊎ Bool) ⊎ Bool)

-- the letters of a term, each pair before its parts
abbrev pub letters : Tm → List Letter
letters (Tree.leaf v) = inl (inl v) ∷ []
letters (Tree.sym s) = inl (inr (inl s)) ∷ []
letters (Tree.str s) = inl (inr (inr s)) ∷ []
letters (Tree.num n) = inr (inl (inl n)) ∷ []
letters (Tree.truth b) = inr (inl (inr b)) ∷ []
letters Tree.nil = inr (inr false) ∷ []
letters (Tree.pair a b) = inr (inr true) ∷ (letters a ++ letters b)

-- the terms that letters spell, one after another
abbrev pub terms : List Letter → List Tm
terms [] = []
terms (inl (inl v) ∷ more) = Tree.leaf v ∷ terms more
terms (inl (inr (inl s)) ∷ more) = Tree.sym s ∷ terms more
terms (inl (inr (inr s)) ∷ more) = Tree.str s ∷ terms more
terms (inr (inl (inl n)) ∷ more) = Tree.num n ∷ terms more
terms (inr (inl (inr b)) ∷ more) = Tree.truth b ∷ terms more
terms (inr (inr false) ∷ more) = Tree.nil ∷ terms more
terms (inr (inr true) ∷ more) = join_two (terms more)

-- the term that letters spell
abbrev pub term_of : List Letter → Tm
term_of l = first_tree (terms l)

-- what is read from a term's letters and others after them
pub terms-letters : (t : Tm) (more : List Letter) → terms (letters t ++ more) ≡ t ∷ terms more
terms-letters (Tree.leaf v) more = refl
terms-letters (Tree.sym s) more = refl
terms-letters (Tree.str s) more = refl
terms-letters (Tree.num n) more = refl
terms-letters (Tree.truth b) more = refl
terms-letters Tree.nil more = refl
terms-letters (Tree.pair a b) more =
    ap (λ l. join_two (terms l)) (append_assoc (letters a) (letters b) more)
    ∙ ap join_two (terms-letters a (letters b ++ more) ∙ ap (λ l. a ∷ l) (terms-letters b more))

-- a term is read back from its letters
pub term_of-letters : (t : Tm) → term_of (letters t) ≡ t
term_of-letters t = ap term_of (sym (append-nil (letters t))) ∙ ap first_tree (terms-letters t [])

-- a letter is stored by its parts
abbrev pub letter_code : Coded Letter
letter_code =
    coded⊎ (coded⊎ coded_ℕ (coded⊎ coded_ℕ coded_ℕ)) (coded⊎ (coded⊎ coded_ℤ coded_bool) coded_bool)

-- a term is stored as its letters
abbrev pub term_code : Coded Tm
term_code = code_by (List Letter) (coded_list letter_code) letters term_of term_of-letters

-- two terms are stored one after the other
abbrev pub sides_code : Coded (Tm × Tm)
sides_code = coded× term_code term_code
