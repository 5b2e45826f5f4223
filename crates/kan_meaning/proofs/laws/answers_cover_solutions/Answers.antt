use Rattle.kan_meaning.proofs.CoveredSolutions.{solutions_are_covered}
use Rattle.kan_meaning.proofs.laws.answers_cover_solutions.Goals as goal

pub returns : goal.returns
returns c = solutions_are_covered
