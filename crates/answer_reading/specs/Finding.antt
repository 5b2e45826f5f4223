-- The ground terms of the names of a term that is to be a ground term.
use Rattle.std.specs.Prelude.{◌≡◌, ◌<◌, ℕ, suc, Bool, true, ◌&&◌, eqb, nat_lt, cond, List, [], ◌∷◌}
use Rattle.std.specs.Prelude.{length, map, Option, Some, None}
use Rattle.std.specs.Borrow.{Bor}
use Rattle.std.specs.Global.{Vec}
use Rattle.std.specs.List.{flat_map}
use Rattle.kan_terms.specs.Tree.{Gd}
use Rattle.kan_terms.specs.Valuations.{value_at}
use Rattle.kan_terms.specs.Spelling.{spelling}
use Rattle.kan_terms.specs.declared.marks.Mark.{Mark}
use Rattle.kan_terms.specs.declared.marks.Mark.TheVariants as marks
use Rattle.reify.specs.declared.shaping.Shape.{Shape}
use Rattle.reify.specs.declared.shaping.Shape.TheVariants as shapes
use Rattle.answer_reading.specs.Marks.{lent_lists}

-- one name more, where it is the next one
abbrev pub after_name : ℕ → ℕ → ℕ
after_name k n = cond (eqb n k) (suc k) k

abbrev pub after_shape : ℕ → Shape → ℕ
after_shape k (shapes.Name n) = after_name k n
after_shape k shapes.Pair = k
after_shape k (shapes.Sym s) = k
after_shape k (shapes.Str s) = k
after_shape k (shapes.Num n) = k
after_shape k (shapes.Truth b) = k
after_shape k shapes.Nil = k

-- a shape is no name above the next one
abbrev pub is_next : ℕ → Shape → Bool
is_next k (shapes.Name n) = nat_lt n (suc k)
is_next k shapes.Pair = true
is_next k (shapes.Sym s) = true
is_next k (shapes.Str s) = true
is_next k (shapes.Num n) = true
is_next k (shapes.Truth b) = true
is_next k shapes.Nil = true

-- names come in order, where the first k have come
abbrev pub rises : ℕ → List Shape → Bool
rises k [] = true
rises k (x ∷ xs) = is_next k x && rises (after_shape k x) xs

-- how many have come in the end
abbrev pub reach : ℕ → List Shape → ℕ
reach k [] = k
reach k (x ∷ xs) = reach (after_shape k x) xs

-- the names among shapes, from left to right
abbrev pub names_in : List Shape → List ℕ
names_in [] = []
names_in (shapes.Name n ∷ xs) = n ∷ names_in xs
names_in (x ∷ xs) = names_in xs

-- the same order, of names alone
abbrev pub names_rise : ℕ → List ℕ → Bool
names_rise k [] = true
names_rise k (n ∷ ns) = nat_lt n (suc k) && names_rise (after_name k n) ns

abbrev pub names_reach : ℕ → List ℕ → ℕ
names_reach k [] = k
names_reach k (n ∷ ns) = names_reach (after_name k n) ns

-- a valuation has these ground terms for the first names
abbrev pub Agrees : List Gd → List Gd → Type 0
Agrees us gs = (n : ℕ) → n < length gs → value_at us n ≡ value_at gs n

-- the marks of a node under a valuation, and those of a term
abbrev pub node_under : List Gd → Shape → List Mark
node_under us shapes.Pair = marks.Pair ∷ []
node_under us (shapes.Name n) = spelling (value_at us n)
node_under us (shapes.Sym s) = marks.Sym s ∷ []
node_under us (shapes.Str s) = marks.Str s ∷ []
node_under us (shapes.Num n) = marks.Num n ∷ []
node_under us (shapes.Truth b) = marks.Truth b ∷ []
node_under us shapes.Nil = marks.Nil ∷ []

abbrev pub term_under : List Gd → List Shape → List Mark
term_under us = flat_map (node_under us)

-- marks of names are those of ground terms, which each valuation has under which a term has its
-- marks
pub record Finds (xs : List Shape) (ms : List Mark) (vs : List (List Mark)) : Type 0 where
  pub grounds : List Gd
  pub whole : vs ≡ map spelling grounds
  pub agrees : (us : List Gd) → term_under us xs ≡ ms → Agrees us grounds
  pub total : length grounds ≡ reach 0 xs

-- the same so far, where these shapes and marks are left
pub record FindsSo (xs : List Shape) (ms : List Mark) (vs : List (List Mark)) (left : List Shape)
    (rest : List Mark) : Type 0 where
  pub grounds : List Gd
  pub whole : vs ≡ map spelling grounds
  pub trees : List Gd
  pub spelled : rest ≡ flat_map spelling trees
  pub fits : (us : List Gd) → term_under us xs ≡ ms → Agrees us grounds
      × (term_under us left ≡ rest)
  pub rising : rises (length grounds) left ≡ true
  pub total : reach (length grounds) left ≡ reach 0 xs

-- what is found, or that no valuation fits
abbrev pub Found : List Shape → List Mark → Option (List (List Mark)) → Type 0
Found xs ms (Some vs) = Finds xs ms vs
Found xs ms None = (us : List Gd) → term_under us xs ≡ ms → ⊥

abbrev pub seen_of : Option (Vec (Bor (List Mark))) → Option (List (List Mark))
seen_of None = None
seen_of (Some values) = Some (lent_lists values.items)
