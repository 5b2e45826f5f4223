use Rattle.kan_meaning.proofs.RunAnswers.{answers_are_solutions}
use Rattle.kan_meaning.proofs.laws.answers_cover_solutions_of_the_run.Goals as goal

pub returns : goal.returns
returns c = answers_are_solutions
