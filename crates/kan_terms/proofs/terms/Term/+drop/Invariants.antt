-- What is left of a term is no deeper than the term.
use Rattle.std.proofs.Common.{◌≤◌}
use Rattle.kan_terms.specs.declared.terms.PairParts.TheDeep.{deep-Term}
use Rattle.kan_terms.proofs.terms.Term.+drop.Given as goal

abbrev pub invariant-loop-self : goal.invariant-loop-self
invariant-loop-self l = deep-Term l.self ≤ deep-Term l.fn.self
