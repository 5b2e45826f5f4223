use Rattle.kan_meaning.proofs.Instances.LeftOutLaws.{excluded_differ}
use Rattle.kan_meaning.proofs.laws.excluded_sides_differ.Goals as goal

pub returns : goal.returns
returns c = excluded_differ
