use Rattle.std.specs.Arc.{arc_value}
use Rattle.stream_core.specs.TableKinds.LinkedThunks.{thunk_of}
use Rattle.stream_core.proofs.TableKinds.LinkedLaws.{read-id, read-node, down}
use Rattle.stream_core.proofs.linked_ids.LinkedId.step.Goals as goal

pub returns-in-Inner : goal.returns-in-Inner
returns-in-Inner g c goal =
    let means = g.St.Store.meaning in
    down means goal c.args.self c.args.around _ c.in-Inner.inner (thunk_of (arc_value c.in-Some.node)) (thunk_of (arc_value c.exchange_in_node.new.node))
    (read-id means goal c.args.self c.in-Some.node c.in-Some.is) (read-node means goal c.exchange_in_node.new.node) c.in-Inner.ensures.0 c.in-Inner.ensures.1
