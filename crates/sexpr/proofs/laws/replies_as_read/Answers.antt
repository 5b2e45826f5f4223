use Rattle.sexpr.proofs.ReplyLaws.{replies_as_read as law}
use Rattle.sexpr.proofs.laws.replies_as_read.Goals as goal

pub returns : goal.returns
returns c = law
