use Rattle.ground_meaning.proofs.AcceptingLaws.{accepted_are_steps}
use Rattle.ground_meaning.proofs.laws.accepted_steps_are_derivations.Goals as goal

pub returns : goal.returns
returns c = accepted_are_steps
