use Rattle.pull_bounds.proofs.TakenSolutions.{what_comes_is_taken}
use Rattle.pull_bounds.proofs.what_comes_is_taken.Goals as goal

pub returns : goal.returns
returns c = what_comes_is_taken
