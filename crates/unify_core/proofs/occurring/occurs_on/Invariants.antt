use Rattle.std.proofs.Common.{◌≡◌}
use Rattle.kan_terms.specs.Terms.{tree}
use Rattle.kan_terms.specs.Tree.{occurs}
use Rattle.unify_core.specs.LentBindings.{with_lent}
use Rattle.kan_terms.specs.Waiting.{waiting_trees}
use Rattle.unify_core.specs.Walking.{full}
use Rattle.unify_core.proofs.Steps.OccursSteps.{stands_in, nodes}
use Rattle.unify_core.proofs.occurring.occurs_on.Given as goal

-- the variable stands in the term where it stands in one that waits
abbrev pub invariant-loop-next : goal.invariant-loop-next
invariant-loop-next g l =
    stands_in (with_lent l.lent (g.B.Bindings.pairs l.bindings)) l.var (waiting_trees l.waiting.items)
    ≡ occurs l.var (full (with_lent l.lent (g.B.Bindings.pairs l.bindings)) (tree l.term))

abbrev pub decreases-loop-next : goal.decreases-loop-next
decreases-loop-next g l = nodes (with_lent l.lent (g.B.Bindings.pairs l.bindings)) (waiting_trees l.waiting.items)
