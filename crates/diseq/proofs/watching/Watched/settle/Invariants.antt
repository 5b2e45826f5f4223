use Rattle.std.proofs.Common.{drop, map}
use Rattle.kan_terms.specs.Terms.{sides}
use Rattle.diseq.specs.Meaning.{watchers}
use Rattle.diseq.proofs.KeptLaws.{Fining}
use Rattle.diseq.proofs.watching.Watched.settle.Given as goal

-- those that no pair which is left wakes are watchable
abbrev pub invariant-loop-pair : goal.invariant-loop-pair
invariant-loop-pair g l = Fining (g.B.Bindings.pairs l.bindings) (map sides l.added) (map sides (drop l.pair-index l.added)) (watchers l.fn.self) (watchers l.self)
