use Rattle.goal_syntax.proofs.Judging.TermsLeftLaws.{one_waits, one_waits_size, two_wait, two_wait_size}
use Rattle.goal_syntax.proofs.judge_term.wait_for.Goals as goal

pub returns-in_ok-push-in-Pair-2-clause-uses : goal.returns-in_ok-push-in-Pair-2-clause-uses
returns-in_ok-push-in-Pair-2-clause-uses c = rw c.in-Pair.is (two_wait _ _ _ _ _ _ _ c.in_ok-push-in-Pair.ensures.items c.in_ok-push-in-Pair-2.ensures.items)

pub returns-in_ok-push-in-Pair-2-clause-size : goal.returns-in_ok-push-in-Pair-2-clause-size
returns-in_ok-push-in-Pair-2-clause-size c = rw c.in-Pair.is (two_wait_size _ _ _ _ _ _ c.in_ok-push-in-Pair.ensures.items c.in_ok-push-in-Pair-2.ensures.items)

pub returns-in_ok-push-in-Same-clause-uses : goal.returns-in_ok-push-in-Same-clause-uses
returns-in_ok-push-in-Same-clause-uses c = rw c.in-Same.is (one_waits _ _ _ _ _ c.in_ok-push-in-Same.ensures.items)

pub returns-in_ok-push-in-Same-clause-size : goal.returns-in_ok-push-in-Same-clause-size
returns-in_ok-push-in-Same-clause-size c = rw c.in-Same.is (one_waits_size _ _ _ _ c.in_ok-push-in-Same.ensures.items)
