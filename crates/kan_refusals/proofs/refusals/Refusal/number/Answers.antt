use Rattle.std.proofs.Common.{◌∙◌}
use Rattle.kan_refusals.proofs.NumberLaws.{same_number}
use Rattle.kan_refusals.proofs.refusals.Refusal.number.Goals as goal

pub returns-clause-named : goal.returns-clause-named
returns-clause-named c other is = same_number other c.args.self (is ∙ c.entry.ensures.number)
