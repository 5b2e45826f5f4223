use Rattle.sexpr.proofs.KeptLaws.{reads_named as law}
use Rattle.sexpr.proofs.laws.reads_named.Goals as goal

pub returns : goal.returns
returns c = law
