-- The store that a plain store stands for.
use Rattle.std.specs.Prelude.{ℕ, List, map}
use Rattle.kan_model.specs.declared.prims.Asserted.{Asserted}
use Rattle.kan_model.specs.Stores.Store.{Store}
use Rattle.kan_model.specs.Stores.Prims.{prim as primitive}

-- the store of primitives and a counter
abbrev pub store_of : List Asserted → ℕ → Store
store_of prims counter = record { prims = map primitive prims; counter = counter }
