use Rattle.std.proofs.Common.{sym, ◌∙◌, ap, ◌-◌, arith}
use Rattle.kan_tree.specs.Nodes.{look}
use Rattle.kan_tree.proofs.LookLaws.{found_inner, missing_inner}
use Rattle.kan_tree.proofs.nodes.find.Goals as goal

pub returns-in-None : goal.returns-in-None
returns-in-None g c = let m = g.T.Again.meaning in
    sym (sym c.loop-reached.invariant.0 ∙ ap (look m c.loop-reached.left c.args.key) c.in-Inner.is ∙ missing_inner m c.loop-reached.left c.args.key c.digit-in-Inner.result c.in-Inner.slots c.if-left-eq0.false c.digit-in-Inner.ensures.result c.in-None.ensures)

pub loop-reached-preserved : goal.loop-reached-preserved
loop-reached-preserved g c = let m = g.T.Again.meaning in (
  ap (look m (c.loop-reached.left - 1) c.args.key) c.deref-reached.ensures
      ∙ sym (ap (look m c.loop-reached.left c.args.key) c.in-Inner.is ∙ found_inner m c.loop-reached.left c.args.key c.digit-in-Inner.result c.in-Inner.slots c.in-Some.below.now c.if-left-eq0.false c.digit-in-Inner.ensures.result c.in-Some.ensures)
      ∙ c.loop-reached.invariant.0,
  omega (arith, c.loop-reached.invariant.1),
)
