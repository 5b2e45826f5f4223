use Rattle.unify_core.specs.Cycles.{HasNoCycle}
use Rattle.kan_subst_tests.proofs.unifying.bind_list.Given as goal

-- the bindings so far have no cycle
abbrev pub invariant-loop-at : goal.invariant-loop-at
invariant-loop-at g l = HasNoCycle (g.B.Bindings.pairs l.bindings)
