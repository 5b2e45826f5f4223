use Rattle.std.proofs.Common.{◌∙◌, ap, ◌+◌}
use Rattle.std.specs.Arc.{arc_value}
use Rattle.kan_store.specs.Meaning.{parts_of, store_of}
use Rattle.kan_store.proofs.StoreLaws.{shown_known, fresh_known, fresh_counted}
use Rattle.kan_store.specs.SolvedStores.{store_in}
use Rattle.kan_store.proofs.store.SolvedStoreStore.fresh.Goals as goal

pub of-requires-clause-counted : goal.of-requires-clause-counted
of-requires-clause-counted g c = fresh_counted (store_of (arc_value c.args.self.now.held)) (store_of c.in_ok-copied_with.field-0) c.from.result
    (c.in_ok-copied_with.ensures.prims ∙ ap (λ h. h.history.prims) c.deref-2.ensures) (c.in_ok-copied_with.ensures.counter ∙ ap (λ h. h.counter + c.from.result) c.deref.ensures) c.args.self.now.counted

pub of-requires-clause-in_step : goal.of-requires-clause-in_step
of-requires-clause-in_step g c = fresh_known (parts_of g.B.Bindings.pairs c.deref-2.result.now.solved) (parts_of g.B.Bindings.pairs c.in_ok-copied_with.field-0.solved)
    (store_of (arc_value c.args.self.now.held)) (store_of c.in_ok-copied_with.field-0) c.from.result
    (shown_known g.B.Bindings.pairs c.deref-2.result.now (arc_value c.args.self.now.held) c.deref-2.ensures c.args.self.now.in_step) c.in_ok-copied_with.ensures.same
    (c.in_ok-copied_with.ensures.prims ∙ ap (λ h. h.history.prims) c.deref-2.ensures) (c.in_ok-copied_with.ensures.counter ∙ ap (λ h. h.counter + c.from.result) c.deref.ensures)
