use Rattle.std.proofs.Common.{ap}
use Rattle.kan_model.specs.Programs.Closed as programs
use Rattle.stream_core.specs.Tables.{HasStream, stream_in}
use Rattle.stream_core.specs.CodeTasks.{task, stack}
use Rattle.stream_core.proofs.StreamLaws.{first-ready, step-streams_after, step-fewer, top-is, none-streams_after}
use Rattle.kan_model.proofs.ListLaws.{Each-front}
use Rattle.stream_core.proofs.StackLaws.{stack-pop, none-left, none-pop, not-some}
use Rattle.stream_core.proofs.TableLaws.{adds_twice, table_stays}
use Rattle.stream_core.proofs.running.finish.Goals as goal

pub take_task-requires-clause-ready : goal.take_task-requires-clause-ready
take_task-requires-clause-ready g c =
    first-ready (programs.meaning c.args.program.now) _ _ _ _ (stack-pop (task g.St.Store.meaning (programs.goal c.args.program.now)) _ _ _ c.in-Some.ensures.items) c.loop-next.invariant.ready

pub loop-next-smaller : goal.loop-next-smaller
loop-next-smaller g c =
    step-fewer (programs.meaning c.args.program.now) _ _ _ _ _ _ (stack-pop (task g.St.Store.meaning (programs.goal c.args.program.now)) _ _ _ c.in-Some.ensures.items) c.in_ok-take_task.ensures.becomes c.loop-next.invariant.ready

pub loop-next-preserved : goal.loop-next-preserved
loop-next-preserved g c =
    let split = stack-pop (task g.St.Store.meaning (programs.goal c.args.program.now)) _ _ _ c.in-Some.ensures.items in
    let step = c.in_ok-take_task.ensures in
    let inv = c.loop-next.invariant in
    record {
      same = step-streams_after (programs.meaning c.args.program.now) _ _ _ _ _ _ _ split step.becomes inv.same;
      ready = step.becomes.ready (first-ready (programs.meaning c.args.program.now) _ _ _ _ split inv.ready);
      belong = step.belong;
      adds = adds_twice _ _ _ inv.adds step.adds;
      table = table_stays _ c.args.program.now _ _ step.adds inv.table;
    }

pub unreachable-requires : goal.unreachable-requires
unreachable-requires g c =
    none-streams_after _ _ _ (ap (stack (task g.St.Store.meaning (programs.goal c.args.program.now))) (none-left _ _ _ _ _ _ c.pop.ensures.items c.pop.ensures.rest c.pop.ensures.cases c.in_default.not-Some)) c.loop-next.invariant.same
    (none-pop (stream_in (g.N.Nodes.table c.loop-next.nodes) g.St.Store.meaning) _ _ _ _ _ _ c.pop-2.ensures.items c.pop-2.ensures.rest c.pop-2.ensures.cases (not-some _ c.in-None.is)) c.requires.one

pub returns-clause-made : goal.returns-clause-made
returns-clause-made g c =
    top-is _ _ _ _ _ (ap (stack (task g.St.Store.meaning (programs.goal c.args.program.now))) (none-left _ _ _ _ _ _ c.pop.ensures.items c.pop.ensures.rest c.pop.ensures.cases c.in_default.not-Some)) c.loop-next.invariant.same
    (stack-pop (stream_in (g.N.Nodes.table c.loop-next.nodes) g.St.Store.meaning) _ _ _ c.in-Some-pop.ensures.items) c.requires.one

pub returns-clause-belong : goal.returns-clause-belong
returns-clause-belong g c =
    (Each-front (HasStream (g.N.Nodes.table c.loop-next.nodes)) _ _ _ c.in-Some-pop.ensures.items c.loop-next.invariant.belong).1
