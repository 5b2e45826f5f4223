-- Reading a ground term back from its marks, by which ground terms are stored as lists.
use Rattle.std.specs.Prelude.{◌≡◌, ℕ, ℤ, ◌⊎◌, Bool, true, false, List, [], ◌∷◌, ◌++◌, refl}
use Rattle.std.specs.Coded.{Coded, code_by, coded⊎, coded_ℕ, coded_ℤ, coded_bool, coded_list}
use Rattle.std.proofs.Common.{◌∙◌, ap, sym, inl, inr, append_assoc}
use Rattle.std.proofs.lemmas.List.{append-nil}
use Rattle.kan_terms.specs.Tree.{Tree, Gd, join_two, first_tree}
use Rattle.kan_terms.specs.Spelling.{spelling}
use Rattle.kan_terms.specs.declared.marks.Mark.{Mark}
use Rattle.kan_terms.specs.declared.marks.Mark.TheVariants.{Pair, Sym, Str, Num, Truth, Nil}

-- the trees that marks spell, one after another
abbrev pub trees : List Mark → List Gd
trees [] = []
trees (Pair ∷ more) = join_two (trees more)
trees (Sym s ∷ more) = Tree.sym s ∷ trees more
trees (Str s ∷ more) = Tree.str s ∷ trees more
trees (Num n ∷ more) = Tree.num n ∷ trees more
trees (Truth b ∷ more) = Tree.truth b ∷ trees more
trees (Nil ∷ more) = Tree.nil ∷ trees more

-- the tree that marks spell
abbrev pub tree_of : List Mark → Gd
tree_of marks = first_tree (trees marks)

-- what is read from a tree's marks and others after them
pub trees-spelling : (t : Gd) (more : List Mark) → trees (spelling t ++ more) ≡ t ∷ trees more
trees-spelling (Tree.leaf none) more = absurd none
trees-spelling (Tree.sym s) more = refl
trees-spelling (Tree.str s) more = refl
trees-spelling (Tree.num n) more = refl
trees-spelling (Tree.truth b) more = refl
trees-spelling Tree.nil more = refl
trees-spelling (Tree.pair a b) more =
    ap (λ l. join_two (trees l)) (append_assoc (spelling a) (spelling b) more)
    ∙ ap join_two (trees-spelling a (spelling b ++ more) ∙ ap (λ l. a ∷ l) (trees-spelling b more))

-- a ground term is read back from its marks
pub tree_of-spelling : (t : Gd) → tree_of (spelling t) ≡ t
tree_of-spelling t =
    ap tree_of (sym (append-nil (spelling t))) ∙ ap first_tree (trees-spelling t [])

-- a mark as a symbol, a string, a number, a truth value or one of two signs
abbrev pub letter : Mark → (ℕ ⊎ (ℕ ⊎ ℤ)) ⊎ (Bool ⊎ Bool)
letter (Sym s) = inl (inl s)
letter (Str s) = inl (inr (inl s))
letter (Num n) = inl (inr (inr n))
letter (Truth b) = inr (inl b)
letter Pair = inr (inr true)
letter Nil = inr (inr false)

-- the mark of a letter
abbrev pub mark_of : (ℕ ⊎ (ℕ ⊎ ℤ)) ⊎ (Bool ⊎ Bool) → Mark
mark_of (inl (inl s)) = Sym s
mark_of (inl (inr (inl s))) = Str s
mark_of (inl (inr (inr n))) = Num n
mark_of (inr (inl b)) = Truth b
mark_of (inr (inr true)) = Pair
mark_of (inr (inr false)) = Nil

-- a mark is read back from its letter
pub mark_of-letter : (m : Mark) → mark_of (letter m) ≡ m
mark_of-letter (Sym s) = refl
mark_of-letter (Str s) = refl
mark_of-letter (Num n) = refl
mark_of-letter (Truth b) = refl
mark_of-letter Pair = refl
mark_of-letter Nil = refl

-- a mark is stored as its letter
abbrev pub mark_code : Coded Mark
mark_code =
    code_by ((ℕ ⊎ (ℕ ⊎ ℤ)) ⊎ (Bool ⊎ Bool))
    (coded⊎ (coded⊎ coded_ℕ (coded⊎ coded_ℕ coded_ℤ)) (coded⊎ coded_bool coded_bool)) letter mark_of
    mark_of-letter

-- a ground term is stored as its marks
abbrev pub ground_code : Coded Gd
ground_code = code_by (List Mark) (coded_list mark_code) spelling tree_of tree_of-spelling
