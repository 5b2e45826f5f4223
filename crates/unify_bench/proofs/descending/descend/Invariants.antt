use Rattle.unify_core.specs.Cycles.{HasNoCycle}
use Rattle.unify_bench.proofs.descending.descend.Given as goal

-- the bindings so far have no cycle
abbrev pub invariant-loop-step : goal.invariant-loop-step
invariant-loop-step g l = HasNoCycle (g.B.Bindings.pairs l.bindings)
