use Rattle.std.proofs.Common.{sym, ap, ◌∙◌}
use Rattle.diseq.specs.Chains.{forms}
use Rattle.diseq.proofs.chains.ChainAgain.again.Goals as goal

pub returns-in-Empty : goal.returns-in-Empty
returns-in-Empty c = sym (ap forms c.in-Empty.is)

pub returns-in_ok-try_clone-in-Link : goal.returns-in_ok-try_clone-in-Link
returns-in_ok-try_clone-in-Link c = c.in_ok-try_clone-in-Link.ensures ∙ sym (ap forms c.in-Link.is)
