use Rattle.std.proofs.Common.{◌≡◌, ◌≤◌, ℕ, List}
use lib.ListN.{get_elem?}
use Rattle.task_deques.specs.Holders.{holder_part, pushed_by, taken_by, others_of, IsHolderOf}
use Rattle.crew.specs.Turns.{FirstWereEmpty}
use Rattle.crew.proofs.taking.stolen_task.Given as goal

-- nothing was taken from those before this one, and those behind are as they were
abbrev pub invariant-loop-other : goal.invariant-loop-other
invariant-loop-other g l = record {
  part : holder_part l.holder ≡ holder_part l.initial.holder;
  pushed : pushed_by l.holder ≡ pushed_by l.initial.holder;
  taken : taken_by l.holder ≡ taken_by l.initial.holder;
  home : (home : List ℕ) → IsHolderOf home l.initial.holder → IsHolderOf home l.holder;
  empty : FirstWereEmpty l.other l.initial.holder;
  same : (k : ℕ) → l.other ≤ k → get_elem? (others_of l.holder) k ≡ get_elem? (others_of l.initial.holder) k;
}
