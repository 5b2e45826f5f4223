use Rattle.std.proofs.Common.{subst}
use Rattle.task_deques.specs.Whole.{Every}
use Rattle.task_deques.specs.Holders.{pushed_to, taken_from, IsWholeDeque}
use Rattle.task_deques.proofs.GatherLaws.{drained_more}
use Rattle.task_deques.proofs.gathering.drain_all.Goals as goal

pub drain-requires : goal.drain-requires
drain-requires g c = record { whole = (subst (Every IsWholeDeque) c.in-Some.ensures.steps.0 c.loop-deque.invariant.whole).0 }

pub loop-deque-preserved : goal.loop-deque-preserved
loop-deque-preserved g c = record {
  whole = (subst (Every IsWholeDeque) c.in-Some.ensures.steps.0 c.loop-deque.invariant.whole).1;
  same = drained_more pushed_to taken_from c.loop-deque.yielded c.in-Some.deque c.loop-deque.left.items c.drain.new.left.items c.loop-deque.invariant.same c.in_ok-drain.ensures;
}
