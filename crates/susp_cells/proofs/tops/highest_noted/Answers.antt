use Rattle.std.proofs.Common.{◌∙◌, ap, max}
use Rattle.susp_cells.proofs.TopLaws.{highest-step}
use Rattle.susp_cells.proofs.tops.highest_noted.Goals as goal

pub loop-store-preserved : goal.loop-store-preserved
loop-store-preserved g c =
    c.max-most.ensures ∙ ap (λ n. max n c.loop-store.most) (c.counter.ensures ∙ ap (λ st. (g.St.Store.meaning st).counter) c.store-item.is)
    ∙ highest-step g.St.Store.meaning c.args.stores.now c.loop-store.store-index c.loop-store.most c.args.least _ c.loop-store.invariant c.loop-store-test.true
