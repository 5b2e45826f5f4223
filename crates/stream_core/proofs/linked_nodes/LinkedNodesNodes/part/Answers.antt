use Rattle.kan_model.specs.Programs.Closed as programs
use Rattle.stream_core.specs.TableKinds.LinkedTables.{program_of, linked_table}
use Rattle.stream_core.specs.Suspensions.{goal_in}
use Rattle.stream_core.proofs.TableKinds.LinkedLaws.{down-whole, down-fits, down-smaller, down-ends, down-begins}
use Rattle.stream_core.proofs.linked_nodes.LinkedNodesNodes.part.Goals as goal

pub loop-longer-init : goal.loop-longer-init
loop-longer-init g c = record {
  whole = down-begins g.St.Store.meaning (programs.meaning (program_of c.args.self.now)) c.none-around.result c.args.id c.none-around.ensures;
  belongs = c.requires;
}

pub loop-longer-preserved : goal.loop-longer-preserved
loop-longer-preserved g c =
    let p = programs.meaning (program_of c.args.self.now) in
    let means = g.St.Store.meaning in
    record {
      whole = down-whole means p c.loop-longer.around c.in-Down.longer c.loop-longer.inside c.in-Down.inner (c.in-Down.ensures (goal_in p)) ((linked_table means c.args.self.now).tree c.args.id) c.loop-longer.invariant.whole;
      belongs = down-fits means p c.loop-longer.around c.in-Down.longer c.loop-longer.inside c.in-Down.inner (c.in-Down.ensures (goal_in p)) c.loop-longer.invariant.belongs;
    }

pub loop-longer-smaller : goal.loop-longer-smaller
loop-longer-smaller g c =
    let p = programs.meaning (program_of c.args.self.now) in
    down-smaller g.St.Store.meaning p c.loop-longer.around c.in-Down.longer c.loop-longer.inside c.in-Down.inner (c.in-Down.ensures (goal_in p))

pub returns-in-End : goal.returns-in-End
returns-in-End g c =
    let p = programs.meaning (program_of c.args.self.now) in
    let means = g.St.Store.meaning in
    let last = c.in-End.ensures (goal_in p) in
    down-ends means p ((linked_table means c.args.self.now).tree c.args.id) c.loop-longer.around c.loop-longer.inside c.in-End.parted last.0 last.1 c.loop-longer.invariant.whole c.loop-longer.invariant.belongs
