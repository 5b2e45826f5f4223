use Rattle.kan_grammar.proofs.Data.FirstRefusalLaws.{refuses_first}
use Rattle.kan_grammar.proofs.reading_laws.refuses_first.Goals as goal

pub returns : goal.returns
returns c = refuses_first
