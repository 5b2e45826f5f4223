use Rattle.std.proofs.Common.{length}
use Rattle.diseq.specs.Chains.{forms}
use Rattle.diseq.specs.Meaning.{watchers}
use Rattle.diseq.proofs.KeptLaws.{Looking}
use Rattle.diseq.proofs.watching.Watched.solve_all.Given as goal

-- what is reached waits
abbrev pub invariant-loop-reached : goal.invariant-loop-reached
invariant-loop-reached g l = Looking (g.B.Bindings.pairs l.bindings) (forms l.chain) (forms l.reached) (watchers l.fn.self) (watchers l.self)

abbrev pub decreases-loop-reached : goal.decreases-loop-reached
decreases-loop-reached g l = length (forms l.reached)
