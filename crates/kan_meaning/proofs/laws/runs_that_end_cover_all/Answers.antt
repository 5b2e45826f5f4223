use Rattle.kan_meaning.proofs.RunAnswers.{end_covers_all}
use Rattle.kan_meaning.proofs.laws.runs_that_end_cover_all.Goals as goal

pub returns : goal.returns
returns c = end_covers_all
