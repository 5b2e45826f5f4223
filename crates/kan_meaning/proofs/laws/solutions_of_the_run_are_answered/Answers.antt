use Rattle.kan_meaning.proofs.RunAnswers.{solutions_are_answered}
use Rattle.kan_meaning.proofs.laws.solutions_of_the_run_are_answered.Goals as goal

pub returns : goal.returns
returns c = solutions_are_answered
