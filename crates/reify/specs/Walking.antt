-- The letters of terms under the answer of a store.
use Rattle.std.specs.Prelude.{Bool, true, false, List, [], ◌∷◌, ◌++◌}
use Rattle.std.specs.Borrow.{Bor}
use Rattle.kan_terms.specs.Tree.{Tree, Tm}
use Rattle.kan_terms.specs.Terms.{tree}
use Rattle.kan_terms.specs.declared.terms.Term.{Term}
use Rattle.kan_model.specs.Stores.Solve.{Replacement, apply}
use Rattle.kan_model.specs.Terms.Letters.{spelling}
use Rattle.kan_model.specs.declared.letters.Letter.{Letter}
use Rattle.kan_model.specs.declared.letters.Letter.TheVariants.{Pair}

-- the letters of the terms on a stack under a replacement, the top first
abbrev pub waiting_under : Replacement → List (Bor Term) → List Letter
waiting_under s [] = []
waiting_under s (t ∷ ts) = waiting_under s ts ++ spelling (apply s (tree t.now))

-- the letters of a term whose parts alone are under a replacement
abbrev pub spelled_under : Replacement → Tm → List Letter
spelled_under s (Tree.pair a b) = Pair ∷ spelling (apply s a) ++ spelling (apply s b)
spelled_under s t = spelling t

abbrev pub is_pair : Tm → Bool
is_pair (Tree.pair a b) = true
is_pair _ = false
