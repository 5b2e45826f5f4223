use Rattle.std.proofs.Common.{◌≡◌, sym, subst, rules}
use Rattle.std.specs.Arc.{arc_value}
use Rattle.std.proofs.lemmas.Result.{IfOk-weaker}
use Rattle.kan_model.specs.Stores.Prims.{prim as primitive}
use Rattle.type_absence.specs.Types.{made_if}
use Rattle.kan_model.specs.Stores.Store.{with_prim}
use Rattle.kan_store.specs.Parts.{KnownToMake}
use Rattle.kan_store.specs.Meaning.{parts_of, store_of}
use Rattle.kan_store.proofs.Observing.{no_cycle_known, watched_known}
use Rattle.kan_store.proofs.StoreLaws.{same_known, seen_known, adding_known}
use Rattle.kan_store.proofs.store.add_behind.Goals as goal

pub add_held-requires-clause-no_cycle : goal.add_held-requires-clause-no_cycle
add_held-requires-clause-no_cycle g c =
    let here : c.in-Some.own.now ≡ arc_value c.args.held.now = search rules in
    no_cycle_known (parts_of g.B.Bindings.pairs c.in-Some.own.now.solved) (store_of (arc_value c.args.held.now)) (seen_known g.B.Bindings.pairs c.in-Some.own.now (arc_value c.args.held.now) (store_of (arc_value c.args.held.now)) here c.requires)

pub add_held-requires-clause-watched : goal.add_held-requires-clause-watched
add_held-requires-clause-watched g c =
    let here : c.in-Some.own.now ≡ arc_value c.args.held.now = search rules in
    watched_known (parts_of g.B.Bindings.pairs c.in-Some.own.now.solved) (store_of (arc_value c.args.held.now)) (seen_known g.B.Bindings.pairs c.in-Some.own.now (arc_value c.args.held.now) (store_of (arc_value c.args.held.now)) here c.requires)

pub returns-in-Some-clause-made : goal.returns-in-Some-clause-made
returns-in-Some-clause-made g c =
    let here : c.in-Some.own.now ≡ arc_value c.args.held.now = search rules in
    IfOk-weaker c.add_held.result _ _
    (λ fits adding. adding_known (parts_of g.B.Bindings.pairs c.in-Some.own.now.solved) (store_of (arc_value c.args.held.now))
    (seen_known g.B.Bindings.pairs c.in-Some.own.now (arc_value c.args.held.now) (store_of (arc_value c.args.held.now)) here c.requires)
    (primitive c.args.prim.now) (made_if fits (parts_of g.B.Bindings.pairs c.add_held.new.held.solved)) adding) c.add_held.ensures.parts

pub add_held-requires-in-None-clause-no_cycle : goal.add_held-requires-in-None-clause-no_cycle
add_held-requires-in-None-clause-no_cycle g c =
    let there : c.deref.result.now ≡ arc_value c.args.held.now = search rules in
    no_cycle_known (parts_of g.B.Bindings.pairs c.in_ok-copy-in-None.copy.solved) (store_of (arc_value c.args.held.now))
    (same_known (parts_of g.B.Bindings.pairs c.deref.result.now.solved) _ _ (seen_known g.B.Bindings.pairs c.deref.result.now (arc_value c.args.held.now) (store_of (arc_value c.args.held.now)) there c.requires) c.in_ok-copy-in-None.ensures.same)

pub add_held-requires-in-None-clause-watched : goal.add_held-requires-in-None-clause-watched
add_held-requires-in-None-clause-watched g c =
    let there : c.deref.result.now ≡ arc_value c.args.held.now = search rules in
    watched_known (parts_of g.B.Bindings.pairs c.in_ok-copy-in-None.copy.solved) (store_of (arc_value c.args.held.now))
    (same_known (parts_of g.B.Bindings.pairs c.deref.result.now.solved) _ _ (seen_known g.B.Bindings.pairs c.deref.result.now (arc_value c.args.held.now) (store_of (arc_value c.args.held.now)) there c.requires) c.in_ok-copy-in-None.ensures.same)

pub returns-in_ok-held-in-None-clause-made : goal.returns-in_ok-held-in-None-clause-made
returns-in_ok-held-in-None-clause-made g c =
    let there : c.deref.result.now ≡ arc_value c.args.held.now = search rules in
    subst (λ h. KnownToMake (with_prim (store_of (arc_value c.args.held.now)) (primitive c.args.prim.now)) (made_if c.in_ok-fits-in-None.fits (parts_of g.B.Bindings.pairs h.solved))) (sym c.in_ok-held-in-None.ensures.ok)
    (adding_known (parts_of g.B.Bindings.pairs c.in_ok-copy-in-None.copy.solved) (store_of (arc_value c.args.held.now))
    (same_known (parts_of g.B.Bindings.pairs c.deref.result.now.solved) _ _ (seen_known g.B.Bindings.pairs c.deref.result.now (arc_value c.args.held.now) (store_of (arc_value c.args.held.now)) there c.requires) c.in_ok-copy-in-None.ensures.same)
    (primitive c.args.prim.now) (made_if c.in_ok-fits-in-None.fits (parts_of g.B.Bindings.pairs c.add_held-in-None.new.held.solved)) c.in_ok-fits-in-None.ensures.parts)
