use Rattle.kan_terms.specs.Terms.{tree}
use Rattle.kan_model.proofs.Solving.FreshLaws.{fresh_is_kept}
use Rattle.stream_core.proofs.ArgumentLaws.{named-below, not-kept}
use Rattle.stream_core.proofs.call_goals.name_pair.Goals as goal

pub assert_owned-requires : goal.assert_owned-requires
assert_owned-requires g c = record {
  below = named-below (g.St.Store.meaning c.args.store) (g.St.Store.meaning c.in_ok-wider.wider) c.counter-var.result (tree c.args.term) c.in_ok-wider.ensures c.counter-var.ensures c.requires.below;
}

pub unreachable-requires : goal.unreachable-requires
unreachable-requires g c =
    not-kept (g.St.Store.meaning c.args.store) (g.St.Store.meaning c.in_ok-wider.wider) c.counter-var.result (tree c.args.term) g.St.Store.meaning _ c.in_ok-wider.ensures c.counter-var.ensures
    (fresh_is_kept (g.St.Store.meaning c.args.store) (tree c.args.term) (g.met.St.Store.kept c.args.store) (g.met.St.Store.counted c.args.store) c.requires.below) c.in-None.is c.in_ok-longer.ensures
