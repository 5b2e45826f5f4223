-- Each part of a pair has fewer nodes than the pair.
use Rattle.std.specs.Prelude.{◌≤◌, ◌+◌, max}
use Rattle.std.proofs.Common.{arith}
use Rattle.kan_terms.specs.declared.terms.Term.{Term}
use Rattle.kan_terms.specs.declared.terms.Term.TheVariants.{Var, Sym, Str, Num, Large, Truth}
use Rattle.kan_terms.specs.declared.terms.Term.TheVariants.{Nil, Pair}
use Rattle.kan_terms.specs.declared.terms.PairParts.TheDeep.{deep-Term}
use Rattle.kan_terms.specs.Tree.{size}
use Rattle.kan_terms.specs.Terms.{tree}

-- a term is no deeper than it has nodes
pub deep_le : (t : Term) → deep-Term t ≤ size (tree t)
deep_le (Var v) = omega arith
deep_le (Sym s) = omega arith
deep_le (Str s) = omega arith
deep_le (Num n) = omega arith
deep_le (Large number) = omega arith
deep_le (Truth b) = omega arith
deep_le Nil = omega arith
deep_le (Pair parts) = omega arith

pub depth_le-size : (first rest : Term) →
    max (deep-Term first) (max (deep-Term rest) 0) ≤ size (tree first) + size (tree rest)
depth_le-size first rest = omega (arith, deep_le first, deep_le rest)
