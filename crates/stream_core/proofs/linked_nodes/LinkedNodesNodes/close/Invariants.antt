use Rattle.std.proofs.Common.{◌≤◌, length}
use Rattle.kan_model.specs.Streams.Bounds.{Fits}
use Rattle.kan_model.specs.Streams.Stream.{Thunk}
use Rattle.stream_core.specs.CodeSurroundings.{IsForceWithin}
use Rattle.stream_core.specs.TableKinds.LinkedTables.{linked_table, around_in_table}
use Rattle.stream_core.proofs.linked_nodes.LinkedNodesNodes.close.Given as goal

-- the stream is the force of what stands inside what is left around it, and no more is left
abbrev pub invariant-loop-level : goal.invariant-loop-level
invariant-loop-level g l = record {
  within : (whole : Thunk) → Fits (linked_table g.St.Store.meaning l.self).program whole →
      IsForceWithin (linked_table g.St.Store.meaning l.self) (around_in_table g.St.Store.meaning l.self) g.St.Store.meaning whole l.fn.around l.fn.inside →
      IsForceWithin (linked_table g.St.Store.meaning l.self) (around_in_table g.St.Store.meaning l.self) g.St.Store.meaning whole l.around l.inside;
  fewer : length (around_in_table g.St.Store.meaning l.self l.around) ≤ length (around_in_table g.St.Store.meaning l.self l.fn.around);
}

abbrev pub decreases-loop-level : goal.decreases-loop-level
decreases-loop-level g l = length (around_in_table g.St.Store.meaning l.self l.around)
