use Rattle.std.proofs.Common.{◌≡◌}
use Rattle.stream_core.specs.InnerSuspensions.{depth}
use Rattle.stream_core.specs.TableKinds.LinkedTables.{linked_table, around_in_table}
use Rattle.stream_core.specs.Surroundings.{within_all}
use Rattle.stream_core.proofs.linked_nodes.LinkedNodesNodes.part.Given as goal

-- what is left with what stands around it is the whole suspension
abbrev pub invariant-loop-longer : goal.invariant-loop-longer
invariant-loop-longer g l = record {
  whole : within_all (around_in_table g.St.Store.meaning l.self l.around) ((linked_table g.St.Store.meaning l.self).tree l.inside) ≡ (linked_table g.St.Store.meaning l.self).tree l.fn.id;
  belongs : (linked_table g.St.Store.meaning l.self).belongs l.inside;
}

abbrev pub decreases-loop-longer : goal.decreases-loop-longer
decreases-loop-longer g l = depth ((linked_table g.St.Store.meaning l.self).tree l.inside)
