use Rattle.kan_meaning.proofs.TakenLaws.{taken_are_solutions}
use Rattle.kan_meaning.proofs.laws.taken_stores_have_solutions_of_the_run.Goals as goal

pub returns : goal.returns
returns c = taken_are_solutions
