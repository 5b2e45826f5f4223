use Rattle.std.proofs.Common.{refl}
use Rattle.kan_store.specs.Meaning.{parts_of}
use Rattle.kan_store.proofs.StoreLaws.{empty_known, kept_known}
use Rattle.kan_store.specs.SolvedStores.{store_in}
use Rattle.kan_store.proofs.store.SolvedStoreStore.empty.Goals as goal

pub of-requires-clause-in_step : goal.of-requires-clause-in_step
of-requires-clause-in_step g c = empty_known (parts_of g.B.Bindings.pairs c.in_ok-unsolved.field-0) (record { prims = c.empty.result.prims; counter = 0 }) c.empty.ensures refl
    c.in_ok-unsolved.ensures.bindings c.in_ok-unsolved.ensures.types c.in_ok-unsolved.ensures.tags c.in_ok-unsolved.ensures.lists c.in_ok-unsolved.ensures.watching

pub of-requires-clause-kept : goal.of-requires-clause-kept
of-requires-clause-kept g c = kept_known (parts_of g.B.Bindings.pairs c.in_ok-unsolved.field-0) (record { prims = c.empty.result.prims; counter = 0 }) (of-requires-clause-in_step g c)
