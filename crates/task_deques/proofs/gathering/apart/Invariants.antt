use Rattle.std.proofs.Common.{◌≡◌, map, flat_map}
use Rattle.task_deques.specs.Holders.{deque_of, others_of}
use Rattle.task_deques.proofs.gathering.apart.Given as goal

abbrev pub invariant-loop-holder : goal.invariant-loop-holder
invariant-loop-holder g l = (l.deques.items ≡ map deque_of l.yielded) × (l.stealers.items ≡ flat_map others_of l.yielded)
