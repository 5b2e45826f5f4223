use Rattle.std.proofs.Common.{◌≡◌}
use Rattle.task_deques.specs.Holders.{holder_part}
use Rattle.crew_tests.proofs.deques.steal_some.Given as goal

abbrev pub invariant-loop : goal.invariant-loop
invariant-loop g l = holder_part l.holder ≡ holder_part l.initial.holder
