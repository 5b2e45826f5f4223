-- Terms over names as shapes in preorder.
use Rattle.std.specs.Prelude.{ℕ, zero, suc, Bool, true, false, List, [], ◌∷◌, ◌++◌}
use Rattle.std.specs.List.{list_all}
use Rattle.kan_terms.specs.Tree.{Tree, Tm, join_two, first_tree}
use Rattle.kan_model.specs.Answers.Answer.{NamedPair}
use Rattle.reify.specs.declared.shaping.Shape.{Shape}
use Rattle.reify.specs.declared.shaping.Shape.TheVariants.{Pair, Name, Sym, Str, Num, Truth, Nil}
use Rattle.reify.specs.declared.shaping.NamePair.{NamePair}

-- the shapes of a term, each pair before its parts
abbrev pub spelling : Tm → List Shape
spelling (Tree.leaf n) = Name n ∷ []
spelling (Tree.sym s) = Sym s ∷ []
spelling (Tree.str s) = Str s ∷ []
spelling (Tree.num n) = Num n ∷ []
spelling (Tree.truth b) = Truth b ∷ []
spelling Tree.nil = Nil ∷ []
spelling (Tree.pair a b) = Pair ∷ (spelling a ++ spelling b)

-- the terms that shapes spell, one after another
abbrev pub trees : List Shape → List Tm
trees [] = []
trees (Pair ∷ more) = join_two (trees more)
trees (Name n ∷ more) = Tree.leaf n ∷ trees more
trees (Sym s ∷ more) = Tree.sym s ∷ trees more
trees (Str s ∷ more) = Tree.str s ∷ trees more
trees (Num n ∷ more) = Tree.num n ∷ trees more
trees (Truth b ∷ more) = Tree.truth b ∷ trees more
trees (Nil ∷ more) = Tree.nil ∷ trees more

-- the term that shapes spell
abbrev pub tree_of : List Shape → Tm
tree_of shapes = first_tree (trees shapes)

-- shapes spell this many whole terms and nothing after them
abbrev pub spells : ℕ → List Shape → Bool
spells zero [] = true
spells zero (x ∷ xs) = false
spells (suc n) [] = false
spells (suc n) (Pair ∷ xs) = spells (suc (suc n)) xs
spells (suc n) (Name m ∷ xs) = spells n xs
spells (suc n) (Sym s ∷ xs) = spells n xs
spells (suc n) (Str s ∷ xs) = spells n xs
spells (suc n) (Num m ∷ xs) = spells n xs
spells (suc n) (Truth b ∷ xs) = spells n xs
spells (suc n) (Nil ∷ xs) = spells n xs

-- each pair of a disequality has one whole term
abbrev pub all_whole : List NamePair → Bool
all_whole = list_all (λ p. spells 1 p.term)

-- a pair of the code is the pair of its name and the term that its shapes spell
abbrev pub named_pair : NamePair → NamedPair
named_pair p = record { name = p.name; by = tree_of p.term }
