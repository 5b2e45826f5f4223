use Rattle.kan_tree.proofs.FrontLaws.{past_link}
use Rattle.kan_tree.proofs.front.find_within.Goals as goal

pub loop-reached-preserved : goal.loop-reached-preserved
loop-reached-preserved g c = past_link g.T.Again.meaning c.loop-reached.left c.args.level c.args.key c.loop-reached.reached.now c.in-Link.link c.deref-in-Link.result.now c.deref-in-Link-2.result.now _ c.in-Link.is c.deref-in-Link.ensures c.deref-in-Link-2.ensures c.if-left-eq0.false c.if-deref-key.false c.loop-reached.invariant
