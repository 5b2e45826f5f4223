use Rattle.kan_terms.specs.Terms.{tree}
use Rattle.kan_terms.specs.Waiting.{waiting_trees}
use Rattle.unify_core.specs.Walking.{full}
use Rattle.unify_core.proofs.Steps.OccursSteps.{nodes}
use Rattle.type_absence.specs.Meaning.{tags}
use Rattle.type_absence.proofs.TagSteps.{Leads}
use Rattle.type_absence.proofs.absence.Absences.put_inside.Given as goal

-- what waits leads to the tags of the whole term
abbrev pub invariant-loop-next : goal.invariant-loop-next
invariant-loop-next g l =
    Leads (g.B.Bindings.pairs l.bindings) l.more (tags l.fn.self) (full (g.B.Bindings.pairs l.bindings) (tree l.term)) (tags l.self) (waiting_trees l.waiting.items)

abbrev pub decreases-loop-next : goal.decreases-loop-next
decreases-loop-next g l = nodes (g.B.Bindings.pairs l.bindings) (waiting_trees l.waiting.items)
