use Rattle.reify.proofs.NamingLaws.{named_step}
use Rattle.reify.proofs.naming.Naming.of.Goals as goal

pub loop-letter-preserved : goal.loop-letter-preserved
loop-letter-preserved c = named_step _ _ _ _ _ c.loop-letter-test.true c.loop-letter.invariant c.in_ok-naming.ensures
