use Rattle.unify_core.specs.Cycles.{HasNoCycle}
use Rattle.unify_core.specs.LentBindings.{with_lent, waiting_equations, equations_ahead, with_next}
use Rattle.unify_core.proofs.Steps.LoadLaws.{left_over}
use Rattle.unify_core.proofs.Steps.UnifySteps.{Leads}
use Rattle.unify_core.proofs.unifying.lend_bindings.Given as goal

-- what the next equation and those behind it add stands behind what was lent
abbrev pub invariant-loop-next : goal.invariant-loop-next
invariant-loop-next g l = record {
  leads : Leads (g.B.Bindings.pairs l.bindings) (with_next l.fn.first (waiting_equations l.fn.waiting.items)) l.lent.items (with_next l.next (equations_ahead l.ahead));
  no_cycle : HasNoCycle (with_lent l.lent.items (g.B.Bindings.pairs l.bindings));
}

abbrev pub decreases-loop-next : goal.decreases-loop-next
decreases-loop-next g l = left_over (with_lent l.lent.items (g.B.Bindings.pairs l.bindings)) (with_next l.next (equations_ahead l.ahead))
