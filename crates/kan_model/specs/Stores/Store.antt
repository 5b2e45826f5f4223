-- Stores: the primitives that were added, in the order of assertion, and a counter above all their
-- variables.
use Rattle.std.specs.Prelude.{ℕ, ◌+◌, List, [], ◌∷◌, ◌++◌}
use Rattle.kan_terms.specs.Tree.{Tm}
use Rattle.kan_model.specs.Programs.Goals.{Primitive}

pub record Store : Type 0 where
  pub prims : List (Primitive Tm)
  pub counter : ℕ

-- the store with no primitive, whose counter is given
abbrev pub bare : ℕ → Store
bare n = record { prims = []; counter = n }

-- the store with one primitive more
abbrev pub with_prim : Store → Primitive Tm → Store
with_prim st p = record { prims = st.prims ++ p ∷ []; counter = st.counter }

-- the store whose counter is higher by k
abbrev pub with_fresh : Store → ℕ → Store
with_fresh st k = record { prims = st.prims; counter = st.counter + k }

-- the equations of a store, in its order
pub record Equation : Type 0 where
  pub left : Tm
  pub right : Tm

abbrev pub equations : List (Primitive Tm) → List Equation
equations [] = []
equations (Primitive.same a b ∷ ps) = record { left = a; right = b } ∷ equations ps
equations (Primitive.differ a b ∷ ps) = equations ps
equations (Primitive.symbol a ∷ ps) = equations ps
equations (Primitive.number a ∷ ps) = equations ps
equations (Primitive.text a ∷ ps) = equations ps
equations (Primitive.absent tag a ∷ ps) = equations ps
