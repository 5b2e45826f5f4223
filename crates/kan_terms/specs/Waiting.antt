-- What terms that wait on a stack stand for.
use Rattle.std.specs.Prelude.{List, [], ◌∷◌, ◌++◌}
use Rattle.std.specs.Borrow.{Bor}
use Rattle.kan_terms.specs.Tree.{Tree, Tm}
use Rattle.kan_terms.specs.Terms.{tree}
use Rattle.kan_terms.specs.declared.terms.Term.{Term}

-- the terms on a stack, the top first
abbrev pub waiting_trees : List (Bor Term) → List Tm
waiting_trees [] = []
waiting_trees (term ∷ above) = waiting_trees above ++ tree term.now ∷ []

-- the parts of a pair, and nothing of other terms
abbrev pub parts_of : Tm → List Tm
parts_of (Tree.pair a b) = a ∷ b ∷ []
parts_of t = []
