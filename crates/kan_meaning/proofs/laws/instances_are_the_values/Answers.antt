use Rattle.kan_meaning.proofs.Instances.SolvedInstances.{instances_are_values}
use Rattle.kan_meaning.proofs.laws.instances_are_the_values.Goals as goal

pub returns : goal.returns
returns c = instances_are_values
