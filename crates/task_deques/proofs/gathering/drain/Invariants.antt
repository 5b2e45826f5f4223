use Rattle.std.proofs.Common.{◌≡◌, ◌-◌, ◌++◌, IsPermutation, length}
use Rattle.task_deques.specs.Shares.{whole}
use Rattle.task_deques.specs.Holders.{pushed_to, taken_from, deque_part}
use Rattle.task_deques.proofs.gathering.drain.Given as goal

abbrev pub invariant-loop-task : goal.invariant-loop-task
invariant-loop-task g l = record {
  whole : (deque_part l.deque).1 ≡ whole;
  same : pushed_to l.deque ≡ pushed_to l.initial.deque;
  moved : IsPermutation (taken_from l.deque ++ l.initial.left.items) (taken_from l.initial.deque ++ l.left.items);
}

abbrev pub decreases-loop-task : goal.decreases-loop-task
decreases-loop-task g l = length (pushed_to l.deque) - length (taken_from l.deque)
