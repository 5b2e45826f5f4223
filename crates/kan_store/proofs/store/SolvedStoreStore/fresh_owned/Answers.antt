use Rattle.std.proofs.Common.{◌≡◌, ◌∙◌, ◌+◌, ap₂, arith}
use Rattle.std.specs.Arc.{arc_value}
use Rattle.kan_store.specs.Meaning.{parts_of, store_of}
use Rattle.kan_store.proofs.StoreLaws.{fresh_known, fresh_counted, kept_known}
use Rattle.kan_store.specs.SolvedStores.{store_in}
use Rattle.kan_store.proofs.store.SolvedStoreStore.fresh_owned.Goals as goal

pub invariant_of-result : goal.invariant_of-result
invariant_of-result g c =
    let held = arc_value c.args.self.held in
    let new = arc_value c.count_behind.new.held in
    let counter : new.counter ≡ held.counter + c.args.count = c.in_ok-count_behind.ensures.counter ∙ ap₂ (λ h n. h.counter + n) c.deref.ensures c.from.ensures in
    let step = fresh_known (parts_of g.B.Bindings.pairs held.solved) (parts_of g.B.Bindings.pairs new.solved) (store_of held) (store_of new) c.args.count
    c.args.self.in_step c.in_ok-count_behind.ensures.same c.in_ok-count_behind.ensures.prims counter in
    let low = c.requires in
    record {
      kept = kept_known (parts_of g.B.Bindings.pairs new.solved) (store_of new) step;
      counted = fresh_counted (store_of held) (store_of new) c.args.count c.in_ok-count_behind.ensures.prims counter c.args.self.counted;
      bounded = omega (arith, counter, low);
      in_step = step;
    }
