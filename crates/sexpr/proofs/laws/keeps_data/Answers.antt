use Rattle.sexpr.proofs.KeptLaws.{keeps_data as law}
use Rattle.sexpr.proofs.laws.keeps_data.Goals as goal

pub returns : goal.returns
returns c = law
