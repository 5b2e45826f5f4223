-- Terms without pairs, and the letters of terms that wait on a stack.
use Rattle.std.specs.Prelude.{Bool, true, false, List, [], ◌∷◌, ◌++◌}
use Rattle.kan_terms.specs.Tree.{Tree, Tm}
use Rattle.kan_model.specs.Terms.Letters.{spelling}
use Rattle.kan_model.specs.declared.letters.Letter.{Letter}

-- a tree that isn't a pair
abbrev pub is_flat : {V : Type 0} → Tree V → Bool
is_flat (Tree.pair a b) = false
is_flat _ = true

-- the letters of the terms on a stack, the top first
abbrev pub letters_waiting : List Tm → List Letter
letters_waiting [] = []
letters_waiting (t ∷ ts) = letters_waiting ts ++ spelling t
