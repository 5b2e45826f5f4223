-- What is left of a chain is no deeper than the chain.
use Rattle.std.proofs.Common.{◌≤◌}
use Rattle.diseq.specs.declared.chains.Link.TheDeep.{deep-Chain}
use Rattle.diseq.proofs.chains.Chain.drop.Given as goal

abbrev pub invariant-loop-self : goal.invariant-loop-self
invariant-loop-self l = deep-Chain l.self ≤ deep-Chain l.fn.self
