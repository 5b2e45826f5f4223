-- The greatest variable.
use Rattle.std.specs.Prelude.{ℕ, Option, None, Some, List, [], ◌∷◌, max}
use Rattle.kan_terms.specs.Tree.{Tree, Tm}

-- the greater of two variables, where there are any
abbrev pub greater : Option ℕ → Option ℕ → Option ℕ
greater None other = other
greater (Some x) None = Some x
greater (Some x) (Some y) = Some (max x y)

-- the greatest variable that stands in a term
abbrev pub greatest_in : Tm → Option ℕ
greatest_in (Tree.leaf v) = Some v
greatest_in (Tree.sym s) = None
greatest_in (Tree.str s) = None
greatest_in (Tree.num n) = None
greatest_in (Tree.truth b) = None
greatest_in Tree.nil = None
greatest_in (Tree.pair a b) = greater (greatest_in a) (greatest_in b)

-- and the greatest that stands in bindings, on either side
abbrev pub greatest_bound : List (ℕ × Tm) → Option ℕ
greatest_bound [] = None
greatest_bound (newest ∷ older) =
    greater (greater (Some newest.0) (greatest_in newest.1)) (greatest_bound older)
