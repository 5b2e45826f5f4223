use Rattle.std.proofs.Common.{◌≡◌}
use Rattle.kan_terms.specs.Terms.{tree}
use Rattle.unify_core.specs.LentBindings.{with_lent}
use Rattle.unify_core.specs.Walking.{walk}
use Rattle.unify_core.proofs.WalkLaws.{way}
use Rattle.unify_core.proofs.walking.walk_on.Given as goal

-- what was reached walks to where the term does
abbrev pub invariant-loop-reached : goal.invariant-loop-reached
invariant-loop-reached g l =
    walk (with_lent l.lent (g.B.Bindings.pairs l.bindings)) (tree l.reached) ≡ walk (with_lent l.lent (g.B.Bindings.pairs l.bindings)) (tree l.term)

abbrev pub decreases-loop-reached : goal.decreases-loop-reached
decreases-loop-reached g l = way (with_lent l.lent (g.B.Bindings.pairs l.bindings)) (tree l.reached)
