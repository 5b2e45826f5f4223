-- The marks of ground terms.
use Rattle.std.specs.Prelude.{◌≡◌, List, [], ◌∷◌, ◌++◌}
use Rattle.kan_terms.specs.Tree.{Tree, Gd}
use Rattle.kan_terms.specs.declared.marks.Mark.{Mark}
use Rattle.kan_terms.specs.declared.marks.Mark.TheVariants.{Pair, Sym, Str, Num, Truth, Nil}

-- the marks of a ground term, each pair before its parts
abbrev pub spelling : Gd → List Mark
spelling (Tree.leaf none) = absurd none
spelling (Tree.sym s) = Sym s ∷ []
spelling (Tree.str s) = Str s ∷ []
spelling (Tree.num n) = Num n ∷ []
spelling (Tree.truth b) = Truth b ∷ []
spelling Tree.nil = Nil ∷ []
spelling (Tree.pair a b) = Pair ∷ (spelling a ++ spelling b)

-- marks spell one whole ground term and nothing after it
abbrev pub SpellsTree : List Mark → Type 0
SpellsTree marks = (t : Gd) × (spelling t ≡ marks)
