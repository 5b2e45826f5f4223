use Rattle.kan_meaning.proofs.Instances.LeftOutLaws.{equal_say_nothing}
use Rattle.kan_meaning.proofs.laws.equal_forms_say_nothing.Goals as goal

pub returns : goal.returns
returns c = equal_say_nothing
