use Rattle.kan_grammar.proofs.Data.ReadingLaws.{reads_exactly}
use Rattle.kan_grammar.proofs.reading_laws.reads_exactly.Goals as goal

pub returns : goal.returns
returns c = reads_exactly
