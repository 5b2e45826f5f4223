use Rattle.std.proofs.Common.{◌≡◌}
use Rattle.kan_model.specs.Programs.Closed as programs
use Rattle.stream_core.specs.Tasks.{AreReady, streams_after, tasks_to_do}
use Rattle.kan_model.specs.Each.{Each}
use Rattle.stream_core.specs.Tables.{HasStream, OnlyAdds, IsTableOf}
use Rattle.stream_core.specs.CodeTasks.{tasks_of, streams_of}
use Rattle.stream_core.proofs.running.finish.Given as goal

-- what is there in the end, and that all tasks are ready
abbrev pub invariant-loop-next : goal.invariant-loop-next
invariant-loop-next g l = record {
  same : streams_after (tasks_of l.program g.St.Store.meaning l.tasks.items) (streams_of (g.N.Nodes.table l.nodes) g.St.Store.meaning l.values.items)
      ≡ streams_after (tasks_of l.program g.St.Store.meaning l.fn.tasks.items) (streams_of (g.N.Nodes.table l.fn.nodes) g.St.Store.meaning l.fn.values.items);
  ready : AreReady (programs.meaning l.program) (tasks_of l.program g.St.Store.meaning l.tasks.items) (streams_of (g.N.Nodes.table l.nodes) g.St.Store.meaning l.values.items);
  belong : Each (HasStream (g.N.Nodes.table l.nodes)) l.values.items;
  adds : OnlyAdds (g.N.Nodes.table l.fn.nodes) (g.N.Nodes.table l.nodes);
  table : IsTableOf l.program (g.N.Nodes.table l.nodes);
}

abbrev pub decreases-loop-next : goal.decreases-loop-next
decreases-loop-next g l = tasks_to_do (tasks_of l.program g.St.Store.meaning l.tasks.items) (streams_of (g.N.Nodes.table l.nodes) g.St.Store.meaning l.values.items)
