use Rattle.std.proofs.Common.{subst}
use Rattle.stream_core.specs.InnerSuspensions.{IsInside}
use Rattle.stream_core.proofs.Paths.PathLaws.{path-longer, next-longer, leads-longer, path-begins, next-begins, leads-begins}
use Rattle.stream_core.proofs.forcing.path_down.Goals as goal

pub down-init : goal.down-init
down-init g c =
    let t = g.N.Nodes.table c.args.nodes.now in
    record {
      above = path-begins t (t.tree c.args.id.now) _ c.new-above.ensures.items;
      next = next-begins t c.args.id.now c.in_ok-last.last _ c.new-above.ensures.items c.requires.may c.in_ok-last.ensures.stands;
      leads = leads-begins c.args.id.now c.in_ok-last.last _ t.told c.new-above.ensures.items c.in_ok-last.ensures.same;
    }

pub down-preserved : goal.down-preserved
down-preserved g c =
    let t = g.N.Nodes.table c.args.nodes.now in
    let whole = t.tree c.args.id.now in
    let inv = c.down.invariant in
    let inner = subst (IsInside t c.down.last) c.in-Some-2.is c.in_ok-inside.ensures in
    record {
      above = path-longer t whole c.down.above.items c.push.new.self.items c.down.last c.in_ok-push-in-Some-2.ensures.items inv.next inner.holds inv.above;
      next = next-longer t whole c.down.above.items c.push.new.self.items c.down.last c.in-Some-2.inside c.in_ok-push-in-Some-2.ensures.items inner inv.next;
      leads = leads-longer c.args.id.now c.down.last c.in-Some-2.inside c.down.above.items c.push.new.self.items t.told c.in_ok-push-in-Some-2.ensures.items inner.told inv.leads;
    }
