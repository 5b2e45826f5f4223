use Rattle.kan_grammar.proofs.Data.CuttingLaws.{ends_at_line}
use Rattle.kan_grammar.proofs.reading_laws.ends_at_line.Goals as goal

pub returns : goal.returns
returns c = ends_at_line
