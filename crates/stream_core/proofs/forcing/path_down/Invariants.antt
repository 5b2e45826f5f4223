use Rattle.std.specs.Prelude.{IfSome}
use Rattle.stream_core.specs.InnerSuspensions.{depth}
use Rattle.stream_core.specs.CodeTasks.{stack}
use Rattle.stream_core.specs.PathDown.{IsPathFrom, IsNext, Leads}
use Rattle.stream_core.proofs.forcing.path_down.Given as goal

-- the id that was reached comes next on the way
abbrev pub invariant-down : goal.invariant-down
invariant-down g l = record {
  above : IsPathFrom (g.N.Nodes.table l.nodes) ((g.N.Nodes.table l.nodes).tree l.id) l.above.items;
  next : IsNext (g.N.Nodes.table l.nodes) ((g.N.Nodes.table l.nodes).tree l.id) l.above.items l.last;
  leads : IfSome (g.N.Nodes.table l.nodes).told (λ told. Leads told.inner l.id (stack (λ at. at) l.above.items) l.last);
}

abbrev pub decreases-down : goal.decreases-down
decreases-down g l = depth ((g.N.Nodes.table l.nodes).tree l.last)
