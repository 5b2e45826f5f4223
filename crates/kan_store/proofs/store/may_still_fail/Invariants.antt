use Rattle.std.proofs.Common.{length}
use Rattle.kan_store.proofs.ResolvingLaws.{ResolvesOn}
use Rattle.kan_store.proofs.store.may_still_fail.Given as goal

-- what is left of the lists that wait, behind what is left so far, is what is left of all
abbrev pub invariant-loop-pairs : goal.invariant-loop-pairs
invariant-loop-pairs g l = ResolvesOn (g.B.Bindings.pairs l.bindings) l.fn.waiting.items l.waiting.items l.left

abbrev pub decreases-loop-pairs : goal.decreases-loop-pairs
decreases-loop-pairs g l = length l.waiting.items
