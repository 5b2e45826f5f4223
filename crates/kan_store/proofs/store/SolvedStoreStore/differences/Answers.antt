use Rattle.std.proofs.Common.{◌∙◌, ap, map, reverse, sym}
use Rattle.std.proofs.lemmas.List.{reverse-reverse}
use Rattle.std.specs.Arc.{arc_value}
use Rattle.std.proofs.lemmas.Result.{IfOk-weaker}
use Rattle.kan_model.specs.Stores.Prims.{equation}
use Rattle.diseq.specs.Meaning.{asserted_in}
use Rattle.kan_store.specs.Meaning.{lent_pairs, parts_of, store_of}
use Rattle.kan_store.proofs.Observing.{no_cycle_known}
use Rattle.kan_store.proofs.StoreLaws.{shown_known, differences_told}
use Rattle.kan_store.specs.SolvedStores.{store_in}
use Rattle.kan_store.proofs.store.SolvedStoreStore.differences.Goals as goal

pub may_still_fail-requires : goal.may_still_fail-requires
may_still_fail-requires g c = no_cycle_known (parts_of g.B.Bindings.pairs c.deref-2.result.now.solved) (store_of (arc_value c.args.self.now.held))
    (shown_known g.B.Bindings.pairs c.deref-2.result.now (arc_value c.args.self.now.held) c.deref-2.ensures c.args.self.now.in_step)

pub returns : goal.returns
returns g c = IfOk-weaker c.may_still_fail.result _ _
    (λ left d. differences_told (parts_of g.B.Bindings.pairs c.deref-2.result.now.solved) (store_of (arc_value c.args.self.now.held))
    (shown_known g.B.Bindings.pairs c.deref-2.result.now (arc_value c.args.self.now.held) c.deref-2.ensures c.args.self.now.in_step)
    (reverse (lent_pairs c.in_ok-newest_first.newest_first.items)) (map (map equation) left)
    (ap reverse c.in_ok-newest_first.ensures ∙ reverse-reverse (asserted_in c.deref.result.now.solved.diseqs) ∙ ap (λ h. asserted_in h.solved.diseqs) (c.deref.ensures ∙ sym c.deref-2.ensures)) d)
    c.may_still_fail.ensures
