-- The store that a plain store is, as its trait's clauses see it.
use Rattle.kan_model.specs.Stores.Store.{Store}
use Rattle.kan_plain.specs.Meaning.{store_of}
use Rattle.kan_plain.specs.declared.plain.PlainStore.{PlainStore}

abbrev pub store_in : PlainStore → Store
store_in store = store_of store.prims.items store.counter
