use Rattle.sexpr.proofs.KeptLaws.{keeps_meaning as law}
use Rattle.sexpr.proofs.laws.keeps_meaning.Goals as goal

pub returns : goal.returns
returns c = law
