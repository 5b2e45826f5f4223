use Rattle.kan_grammar.proofs.Data.CuttingLaws.{cuts_before}
use Rattle.kan_grammar.proofs.reading_laws.cuts_before.Goals as goal

pub returns : goal.returns
returns c = cuts_before
