use Rattle.std.proofs.Common.{ap, arith}
use Rattle.std.specs.Arc.{arc_value}
use Rattle.kan_model.specs.Stores.Prims.{prim as primitive}
use Rattle.kan_store.specs.Meaning.{parts_of, store_of}
use Rattle.kan_store.proofs.StoreLaws.{longer_known, kept_known, longer_counted}
use Rattle.kan_store.specs.SolvedStores.{store_in}
use Rattle.kan_store.proofs.store.SolvedStoreStore.assert_owned.Goals as goal

pub invariant_of-result : goal.invariant_of-result
invariant_of-result g c =
    let old = store_of (arc_value c.args.self.held) in
    let new = store_of (arc_value c.add_behind.new.held) in
    let step = longer_known (parts_of g.B.Bindings.pairs (arc_value c.add_behind.new.held).solved) old new (primitive c.args.prim.now) c.in_ok-add_behind.field-0
    c.if-not-branch.false c.in_ok-add_behind.ensures.made c.in_ok-add_behind.ensures.store in
    let same = ap (λ st. st.counter) c.in_ok-add_behind.ensures.store in
    let low = c.args.self.bounded in
    record {
      kept = kept_known (parts_of g.B.Bindings.pairs (arc_value c.add_behind.new.held).solved) new step;
      counted = longer_counted old new (primitive c.args.prim.now) (ap (λ st. st.prims) c.in_ok-add_behind.ensures.store) same c.args.self.counted c.requires.below;
      bounded = omega (arith, same, low);
      in_step = step;
    }
