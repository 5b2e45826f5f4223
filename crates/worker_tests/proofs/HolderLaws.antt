-- Holders that were dealt.
use Rattle.std.proofs.Common.{ℕ, List, [], ◌∷◌}
use Rattle.task_deques.specs.declared.holders.TaskStealer.{TaskStealer}
use Rattle.task_deques.specs.Whole.{Every}
use Rattle.task_deques.specs.Holders.{Holder, others_of, IsUnusedStealer, IsUnusedHolder, IsStealerOf, IsHolderOf}

module _ {T : Type 0} where
  stealers_are_of : (home : List ℕ) (ss : List (TaskStealer T)) → Every (IsUnusedStealer home) ss → Every (IsStealerOf home) ss
  stealers_are_of home [] h = tt
  stealers_are_of home (s ∷ ss) h = (h.0.2, stealers_are_of home ss h.1)

  -- one that wasn't used is of its home
  pub unused_is_of : (home : List ℕ) (h : Holder T) → IsUnusedHolder home h → IsHolderOf home h
  unused_is_of home h u = (u.0.2, stealers_are_of home (others_of h) u.1)
