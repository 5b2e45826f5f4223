use Rattle.std.proofs.Common.{ap}
use Rattle.kan_terms.specs.Valuations.{value}
use Rattle.ground_meaning.specs.Values.{value_of}
use Rattle.ground_meaning.proofs.ValueLaws.{put_keeps, put_fewer}
use Rattle.ground_meaning.proofs.values.marks_of.Goals as goal

pub loop-next-preserved : goal.loop-next-preserved
loop-next-preserved c =
    put_keeps (value_of c.args.program.now c.args.values.now) _ _ _ _ _ _ _ c.put_node.new.waiting.items c.in-Some.ensures.items (ap (value c.args.values.now) c.template_at-node.ensures) c.in_ok-put_node.ensures c.loop-next.invariant

pub loop-next-smaller : goal.loop-next-smaller
loop-next-smaller c =
    put_fewer (value_of c.args.program.now c.args.values.now) _ _ _ _ _ _ c.put_node.new.waiting.items c.in-Some.ensures.items (ap (value c.args.values.now) c.template_at-node.ensures) c.in_ok-put_node.ensures
