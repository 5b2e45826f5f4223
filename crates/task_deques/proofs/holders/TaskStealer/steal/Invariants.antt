use Rattle.std.proofs.Common.{◌≡◌}
use Rattle.crossbeam_deque.specs.Handles.{view}
use Rattle.task_deques.specs.Holders.{stealer_part}
use Rattle.task_deques.proofs.holders.TaskStealer.steal.Given as goal

abbrev pub invariant-loop : goal.invariant-loop
invariant-loop g l = (stealer_part l.self ≡ stealer_part l.initial.self) × (view l.self.pass ≡ view l.initial.self.pass)
