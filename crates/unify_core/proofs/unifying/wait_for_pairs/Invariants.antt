use Rattle.std.proofs.Common.{◌≡◌, ◌≤◌, map, drop, length}
use Rattle.kan_model.specs.Stores.Prims.{equation as pair_equation}
use Rattle.unify_core.specs.LentBindings.{waiting_equations}
use Rattle.unify_core.proofs.unifying.wait_for_pairs.Given as goal

-- the pairs from an index on are waiting
abbrev pub invariant-loop-left : goal.invariant-loop-left
invariant-loop-left l = record {
  within : l.left ≤ length l.pairs;
  wait : waiting_equations l.waiting.items ≡ map pair_equation (drop l.left l.pairs);
}

abbrev pub decreases-loop-left : goal.decreases-loop-left
decreases-loop-left l = l.left
