use Rattle.kan_meaning.proofs.Instances.LeftOutLaws.{weaker_say_nothing}
use Rattle.kan_meaning.proofs.laws.weaker_forms_say_nothing.Goals as goal

pub returns : goal.returns
returns c = weaker_say_nothing
