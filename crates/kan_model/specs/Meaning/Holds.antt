-- When a primitive holds of ground values, and the solutions of a store.
use Rattle.std.specs.Prelude.{◌≡◌, Bool, true, false, not, List, length, ◌++◌}
use Rattle.std.specs.List.{list_all}
use Rattle.kan_terms.specs.Tree.{Tree, Tm, Gd, has_symbol, ground_eq}
use Rattle.kan_terms.specs.Valuations.{value}
use Rattle.kan_model.specs.Programs.Goals.{Primitive, on_sides}
use Rattle.kan_model.specs.Stores.Store.{Store}

abbrev pub is_symbol : Gd → Bool
is_symbol (Tree.sym s) = true
is_symbol _ = false

abbrev pub is_number : Gd → Bool
is_number (Tree.num n) = true
is_number _ = false

abbrev pub is_string : Gd → Bool
is_string (Tree.str s) = true
is_string _ = false

-- equality, its opposite, the types of symbols, numbers and strings, and a tag that stands nowhere
-- in a term
abbrev pub holds : Primitive Gd → Bool
holds (Primitive.same a b) = ground_eq a b
holds (Primitive.differ a b) = not (ground_eq a b)
holds (Primitive.symbol a) = is_symbol a
holds (Primitive.number a) = is_number a
holds (Primitive.text a) = is_string a
holds (Primitive.absent tag a) = not (has_symbol tag a)

-- the primitive holds of its values under a valuation
abbrev pub holds_at : List Gd → Primitive Tm → Bool
holds_at us p = holds (on_sides (value us) p)

-- a solution of a store: a valuation as long as the counter, under which each primitive holds
abbrev pub IsSolution : Store → List Gd → Type 0
IsSolution st us = (length us ≡ st.counter) × (list_all (holds_at us) st.prims ≡ true)

-- a valuation begins with another one
abbrev pub BeginsWith : List Gd → List Gd → Type 0
BeginsWith us first = (more : List Gd) × (us ≡ first ++ more)
