-- The arguments of the goals of a program are there.
use Rattle.std.proofs.Common.{◌≡◌, ℕ, zero, suc, ◌+◌, List, [], ◌∷◌, length, true, Some, slice_get, subst}
use Rattle.std.proofs.lemmas.Bool.{and_parts, leb-true}
use Rattle.kan_model.specs.Programs.Tables.{GoalEntry, is_goal_grown, goals_grown}
use Rattle.kan_model.specs.Programs.Closed as programs
use Rattle.kan_model.specs.Programs.Closed.{ArgumentsPlaced}
use Rattle.kan_model.specs.declared.program.Program.{Program}

entry-placed : (p : Program) (n : ℕ) (e : GoalEntry) → is_goal_grown (programs.tables p) n e ≡ true → ArgumentsPlaced p e
entry-placed p n (GoalEntry.call r at k) h = leb-true (at + k) (length (programs.tables p).arguments) h
entry-placed p n _ h = tt

pub goal-placed : (p : Program) (n : ℕ) (es : List GoalEntry) (i : ℕ) (e : GoalEntry) → goals_grown (programs.tables p) n es ≡ true → slice_get es i ≡ Some e → ArgumentsPlaced p e
goal-placed p n [] i e h is = cc
goal-placed p n (d ∷ es) zero e h is =
    let same : d ≡ e = cc in
    subst (ArgumentsPlaced p) same (entry-placed p n d (and_parts (is_goal_grown (programs.tables p) n d) (goals_grown (programs.tables p) (suc n) es) h).0)
goal-placed p n (d ∷ es) (suc i) e h is = goal-placed p (suc n) es i e (and_parts (is_goal_grown (programs.tables p) n d) (goals_grown (programs.tables p) (suc n) es) h).1 is
