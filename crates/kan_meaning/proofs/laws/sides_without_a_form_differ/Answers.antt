use Rattle.kan_meaning.proofs.Instances.LeftOutLaws.{never_equal}
use Rattle.kan_meaning.proofs.laws.sides_without_a_form_differ.Goals as goal

pub returns : goal.returns
returns c = never_equal
