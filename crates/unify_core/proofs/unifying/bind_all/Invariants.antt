use Rattle.std.proofs.Common.{drop, map}
use Rattle.kan_terms.specs.Terms.{sides}
use Rattle.unify_core.specs.Solutions.{AddedTo}
use Rattle.unify_core.specs.Walking.{Pairs}
use Rattle.unify_core.proofs.unifying.bind_all.Given as goal

-- the pairs that are left, put in front of what was made, are all in front of the bindings
abbrev pub invariant-loop-pair : goal.invariant-loop-pair
invariant-loop-pair g l =
    (new : Pairs) × AddedTo (g.B.Bindings.pairs l.made) (map sides (drop l.pair-index l.added)) new × AddedTo (g.B.Bindings.pairs l.fn.bindings) (map sides l.added) new
