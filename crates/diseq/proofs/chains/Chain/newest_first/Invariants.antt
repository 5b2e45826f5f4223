use Rattle.std.proofs.Common.{◌≡◌, ◌++◌, length, map, reverse}
use Rattle.kan_model.specs.Stores.Prims.{equation as pair_equation}
use Rattle.diseq.specs.Chains.{forms}
use Rattle.diseq.proofs.chains.Chain.newest_first.Given as goal

-- what is lent, and behind it what is left, are all
abbrev pub invariant-loop-reached : goal.invariant-loop-reached
invariant-loop-reached l = map (λ pairs. map pair_equation pairs.now) l.lent.items ++ reverse (forms l.reached) ≡ reverse (forms l.self)

abbrev pub decreases-loop-reached : goal.decreases-loop-reached
decreases-loop-reached l = length (forms l.reached)
