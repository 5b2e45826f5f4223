use Rattle.std.proofs.Common.{◌++◌, map, flat_map, IsPermutation, length}
use Rattle.task_deques.specs.Whole.{IsAll}
use Rattle.task_deques.specs.Holders.{pushed_to, taken_from, pushed_through, taken_through, deque_part, stealer_part}
use Rattle.task_deques.proofs.gathering.absorb_all.Given as goal

abbrev pub invariant-loop-stealer : goal.invariant-loop-stealer
invariant-loop-stealer g l = record {
  all : IsAll (map deque_part l.deques.items) (map stealer_part l.stealers.items);
  pushed : IsPermutation (flat_map pushed_to l.initial.deques.items ++ flat_map pushed_through l.initial.stealers.items) (flat_map pushed_to l.deques.items ++ flat_map pushed_through l.stealers.items);
  taken : IsPermutation (flat_map taken_from l.initial.deques.items ++ flat_map taken_through l.initial.stealers.items) (flat_map taken_from l.deques.items ++ flat_map taken_through l.stealers.items);
}

abbrev pub decreases-loop-stealer : goal.decreases-loop-stealer
decreases-loop-stealer g l = length l.stealers.items
