use Rattle.std.proofs.Common.{length}
use Rattle.stream_core.specs.CodeTasks.{stack}
use Rattle.stream_core.specs.Tables.{IsTableOf, Grows, BothTold, IsForce}
use Rattle.stream_core.specs.PathDown.{next, IsPathFrom}
use Rattle.stream_core.proofs.TableLaws.{KeptUpTo}
use Rattle.stream_core.proofs.forcing.force.Given as goal

-- the ids that are left are a path down to the last one whose force was made, which is kept
abbrev pub invariant-loop-at : goal.invariant-loop-at
invariant-loop-at g l = record {
  table : IsTableOf l.program (g.N.Nodes.table l.nodes);
  path : IsPathFrom (g.N.Nodes.table l.nodes) ((g.N.Nodes.table l.fn.nodes).tree l.id) l.above.items;
  force : IsForce (g.N.Nodes.table l.nodes) g.St.Store.meaning (next ((g.N.Nodes.table l.fn.nodes).tree l.id) (stack (g.N.Nodes.table l.nodes).tree l.above.items)) l.stream;
  grows : Grows (g.N.Nodes.table l.fn.nodes) (g.N.Nodes.table l.nodes);
  kept : BothTold (KeptUpTo (g.N.Nodes.table l.fn.nodes).belongs l.id (stack (λ at. at) l.above.items)) (g.N.Nodes.table l.fn.nodes).told (g.N.Nodes.table l.nodes).told;
}

abbrev pub decreases-loop-at : goal.decreases-loop-at
decreases-loop-at g l = length l.above.items
