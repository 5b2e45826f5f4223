use Rattle.std.proofs.Common.{◌++◌, flat_map, IsPermutation}
use Rattle.task_deques.specs.Whole.{Every}
use Rattle.task_deques.specs.Holders.{pushed_to, taken_from, IsWholeDeque}
use Rattle.task_deques.proofs.gathering.drain_all.Given as goal

abbrev pub invariant-loop-deque : goal.invariant-loop-deque
invariant-loop-deque g l = record {
  whole : Every IsWholeDeque l.deque-iterator.rest.items;
  same : IsPermutation (flat_map pushed_to l.yielded) (flat_map taken_from l.yielded ++ l.left.items);
}
