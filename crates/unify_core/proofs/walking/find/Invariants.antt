use Rattle.std.proofs.Common.{◌≡◌, ◌≤◌, length}
use Rattle.kan_terms.specs.Bound.{bound_to}
use Rattle.unify_core.specs.LentBindings.{with_lent}
use Rattle.unify_core.proofs.Steps.LentBindingLaws.{up_to}
use Rattle.unify_core.proofs.walking.find.Given as goal

-- the variable's term is that in the bindings which are left
abbrev pub invariant-loop-left : goal.invariant-loop-left
invariant-loop-left g l = record {
  within : l.left ≤ length l.lent;
  same : bound_to l.var (up_to l.left l.lent (g.B.Bindings.pairs l.bindings)) ≡ bound_to l.var (with_lent l.lent (g.B.Bindings.pairs l.bindings));
}

abbrev pub decreases-loop-left : goal.decreases-loop-left
decreases-loop-left g l = l.left
