use Rattle.std.proofs.Common.{map, rules}
use Rattle.kan_solving.specs.Solving.{replaced_by}
use Rattle.kan_solving.proofs.SolvingSteps.{loop_keeps, loop_falls, loop_stops, loop_ends}
use Rattle.kan_solving.proofs.solving.solve.Goals as goal

pub loop-given-preserved : goal.loop-given-preserved
loop-given-preserved g c =
    loop_keeps (g.O.Order.left c.args.order.now) _ c.pop.new.self.items c.step.new.pending.items c.in-Some.given (map replaced_by c.loop-given.made.items) (map replaced_by c.step.new.made.items) _ _
    c.in-Some.ensures.items c.in_ok-goes_on.ensures (search rules) c.loop-given.invariant

pub loop-given-smaller : goal.loop-given-smaller
loop-given-smaller g c =
    loop_falls (g.O.Order.left c.args.order.now) _ c.pop.new.self.items c.step.new.pending.items c.in-Some.given (map replaced_by c.loop-given.made.items) (map replaced_by c.step.new.made.items) _
    c.in-Some.ensures.items c.in_ok-goes_on.ensures (search rules)

pub returns-then-not-goes_on : goal.returns-then-not-goes_on
returns-then-not-goes_on g c =
    loop_stops (g.O.Order.left c.args.order.now) _ c.pop.new.self.items c.step.new.pending.items c.in-Some.given (map replaced_by c.loop-given.made.items) (map replaced_by c.step.new.made.items) _ _
    c.in-Some.ensures.items c.in_ok-goes_on.ensures (search rules) c.loop-given.invariant

pub returns : goal.returns
returns g c = loop_ends (g.O.Order.left c.args.order.now) c.loop-given.pending.items (map replaced_by c.loop-given.made.items) _ _ (search rules) c.in_ok-finish.ensures c.loop-given.invariant
