use Rattle.kan_model.specs.Programs.Closed as programs
use Rattle.stream_core.specs.CodeTasks.{tasks_of, streams_of}
use Rattle.stream_core.specs.Tables.{stream_in}
use Rattle.std.proofs.Common.{subst, ◌∷◌}
use Rattle.stream_core.specs.CodeTasks.{task}
use Rattle.stream_core.specs.Tasks.{AreReady}
use Rattle.stream_core.proofs.StreamLaws.{two-to-append, one-to-append}
use Rattle.stream_core.proofs.running.take_task.Goals as goal

pub append_top-requires-clause-two : goal.append_top-requires-clause-two
append_top-requires-clause-two g c =
    let p = c.args.program.now in
    let means = g.St.Store.meaning in
    let f = stream_in (g.N.Nodes.table c.args.nodes.now) means in
    two-to-append f (programs.meaning p) (tasks_of p means c.args.tasks.now.items) c.args.values.now.items
    (subst (λ n. AreReady (programs.meaning p) (task means (programs.goal p) n ∷ tasks_of p means c.args.tasks.now.items) (streams_of (g.N.Nodes.table c.args.nodes.now) means c.args.values.now.items)) c.in-Append.is c.requires.ready)

pub append_empty_to_top-requires-clause-one : goal.append_empty_to_top-requires-clause-one
append_empty_to_top-requires-clause-one g c =
    let p = c.args.program.now in
    let means = g.St.Store.meaning in
    let f = stream_in (g.N.Nodes.table c.args.nodes.now) means in
    one-to-append f (programs.meaning p) (tasks_of p means c.args.tasks.now.items) c.args.values.now.items
    (subst (λ n. AreReady (programs.meaning p) (task means (programs.goal p) n ∷ tasks_of p means c.args.tasks.now.items) (streams_of (g.N.Nodes.table c.args.nodes.now) means c.args.values.now.items)) c.in-AppendEmpty.is c.requires.ready)
