use Rattle.rel_library.proofs.AcceptedLoads.{loads_are_accepted}
use Rattle.rel_library.proofs.laws.loads_are_accepted.Goals as goal

pub returns : goal.returns
returns c = loads_are_accepted
