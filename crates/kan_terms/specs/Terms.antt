-- What the terms of the code stand for.
use Rattle.std.specs.Arc.{arc_value}
use Rattle.kan_terms.specs.Tree.{Tree, Tm}
use Rattle.kan_terms.specs.declared.terms.Term.{Term}
use Rattle.kan_terms.specs.declared.terms.TermPair.{TermPair}
use Rattle.kan_terms.specs.declared.terms.Term.TheVariants.{Var, Sym, Str, Num, Large, Truth}
use Rattle.kan_terms.specs.declared.terms.Term.TheVariants.{Nil, Pair}

-- the tree of a term, whose pairs and large numbers lie behind pointers
abbrev pub tree : Term → Tm
tree (Var v) = Tree.leaf v
tree (Sym s) = Tree.sym s
tree (Str s) = Tree.str s
tree (Num n) = Tree.num n
tree (Large number) = Tree.num (arc_value number)
tree (Truth b) = Tree.truth b
tree Nil = Tree.nil
tree (Pair parts) = Tree.pair (arc_value parts).0 (arc_value parts).1

-- the two sides of a pair of terms
abbrev pub sides : TermPair → Tm × Tm
sides parts = (tree parts.first, tree parts.rest)
