use Rattle.std.proofs.Common.{◌≡◌, []}
use Rattle.task_deques.specs.Holders.{holder_part, deque_home}
use Rattle.crew_tests.proofs.deques.push_and_take.Given as goal

abbrev pub invariant-loop-number : goal.invariant-loop-number
invariant-loop-number l = (holder_part l.holder ≡ holder_part l.initial.holder) × (deque_home l.holder.deque ≡ [])
