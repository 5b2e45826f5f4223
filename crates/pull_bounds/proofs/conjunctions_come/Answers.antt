use Rattle.pull_bounds.proofs.BindLaws.{both_come}
use Rattle.pull_bounds.proofs.conjunctions_come.Goals as goal

pub returns : goal.returns
returns c = both_come
