use Rattle.pull_bounds.proofs.BindLaws.{bound_comes}
use Rattle.pull_bounds.proofs.bound_goals_come.Goals as goal

pub returns : goal.returns
returns c = bound_comes
