use Rattle.kan_meaning.proofs.Instances.LeftOutLaws.{unnamed_can_differ}
use Rattle.kan_meaning.proofs.laws.unnamed_variables_can_differ.Goals as goal

pub returns : goal.returns
returns c = unnamed_can_differ
