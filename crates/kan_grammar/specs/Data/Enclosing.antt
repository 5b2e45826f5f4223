-- What is unclosed at a place in a text: where the next datum will stand, or that only a close may
-- come.
use Rattle.std.specs.Prelude.{ℕ, suc, ◌+◌, List, [], ◌∷◌, ◌++◌, length, Option, Some, None}
use Rattle.kan_grammar.specs.Data.Words.{Atom, Shape, Prefix}
use Rattle.kan_grammar.specs.Data.Written.{Written, Within, single, list, prefixed, close, dotted}
use Rattle.kan_grammar.specs.Data.Written.{element}

-- what is made of the data of a text: of an atom, of a list by its elements, of one with a dot, and
-- of a prefixed datum, each with its offsets
pub record Build (D : Type 0) : Type 0 where
  pub of_atom : ℕ → Atom → D
  -- the offset of the opening, the shape, the elements, the offset of the close
  pub of_list : ℕ → Shape → List D → ℕ → D
  -- the same with the offset of the dot and the datum after it, before that of the close
  pub of_dotted : ℕ → Shape → List D → ℕ → D → ℕ → D
  pub of_prefixed : ℕ → Prefix → D → D

-- where a datum may come: after the data at the top; in a list, after its elements; after the dot
-- of a list, which has a first element; after a prefix
pub data Place (D : Type 0) : Type 0 where
  top : List D → Place D
  in_list : Place D → ℕ → Shape → List D → Place D
  after_dot : Place D → ℕ → Shape → D → List D → ℕ → Place D
  after_prefix : Place D → ℕ → Prefix → Place D

-- a datum may come, or the datum after a dot is there and only the list's close may come
pub data Enclosing (D : Type 0) : Type 0 where
  awaiting : Place D → Enclosing D
  ended : Place D → ℕ → Shape → D → List D → ℕ → D → Enclosing D

-- how deep the next datum will stand
abbrev pub depth : {D : Type 0} → Place D → ℕ
depth (top ds) = 0
depth (in_list outer at s ds) = depth outer + suc (length ds)
depth (after_dot outer at s e ds point) = depth outer + suc (length ds)
depth (after_prefix outer at p) = depth outer + 2

-- the shape of the innermost unclosed list
abbrev pub innermost_shape : {D : Type 0} → Place D → Option Shape
innermost_shape (top ds) = None
innermost_shape (in_list outer at s ds) = Some s
innermost_shape (after_dot outer at s e ds point) = Some s
innermost_shape (after_prefix outer at p) = innermost_shape outer

-- what is unclosed once a datum stands at its place
abbrev pub put : {D : Type 0} → Build D → Place D → D → Enclosing D
put b (top ds) d = awaiting (top (ds ++ d ∷ []))
put b (in_list outer at s ds) d = awaiting (in_list outer at s (ds ++ d ∷ []))
put b (after_dot outer at s e ds point) d = ended outer at s e ds point d
put b (after_prefix outer at p) d = put b outer (b.of_prefixed at p d)

-- elements in a row, before what else stands in their list
abbrev pub row : List Written → Within → Within
row [] inner = inner
row (d ∷ ds) inner = element d (row ds inner)

-- the data as they are written
abbrev pub as_written : Build Written
as_written =
    record {
      of_atom = single;
      of_list = λ at s ds end. list at s (row ds (close end));
      of_dotted = λ at s ds point d end. list at s (row ds (dotted point d end));
      of_prefixed = prefixed;
    }
