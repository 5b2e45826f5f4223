use Rattle.std.proofs.Common.{length}
use Rattle.stream_core.specs.CodeSurroundings.{IsForceWithin}
use Rattle.stream_core.specs.Tables.{IsTableOf, Grows}
use Rattle.stream_core.proofs.forcing_once.force_once.Given as goal

-- the stream is the force of what stands inside what is left of the whole suspension
abbrev pub invariant-loop-closed : goal.invariant-loop-closed
invariant-loop-closed g l = record {
  table : IsTableOf l.program (g.N.Nodes.table l.nodes);
  grows : Grows (g.N.Nodes.table l.fn.nodes) (g.N.Nodes.table l.nodes);
  within : IsForceWithin (g.N.Nodes.table l.nodes) (g.N.Nodes.around_in l.nodes) g.St.Store.meaning ((g.N.Nodes.table l.fn.nodes).tree l.fn.id) l.around l.inside;
}

abbrev pub decreases-loop-closed : goal.decreases-loop-closed
decreases-loop-closed g l = length (g.N.Nodes.around_in l.nodes l.around)
