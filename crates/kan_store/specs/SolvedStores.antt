-- The store that a solved store is, as its trait's clauses see it.
use Rattle.std.specs.Arc.{arc_value}
use Rattle.kan_terms.specs.declared.binding.Bindings.{Ghosts}
use Rattle.kan_model.specs.Stores.Store.{Store}
use Rattle.kan_store.specs.Meaning.{store_of}
use Rattle.kan_store.specs.declared.store.SolvedStore.{SolvedStore}

module _ {B : Type 0} {g : Ghosts B} where
  abbrev pub store_in : SolvedStore B g → Store
  store_in store = store_of (arc_value store.held)
