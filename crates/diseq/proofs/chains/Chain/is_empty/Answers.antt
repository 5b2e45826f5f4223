use Rattle.std.proofs.Common.{ap}
use Rattle.diseq.specs.Chains.{forms}
use Rattle.diseq.proofs.chains.Chain.is_empty.Goals as goal

pub returns-in-Empty : goal.returns-in-Empty
returns-in-Empty c _ = ap forms c.in-Empty.is
