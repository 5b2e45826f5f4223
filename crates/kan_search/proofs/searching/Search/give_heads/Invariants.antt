use Rattle.std.proofs.Common.{◌≡◌, ℕ, ◌≤◌, length, map}
use Rattle.kan_search.specs.Batches.{batch_then, greatest_batch}
use Rattle.kan_search.specs.Searches.{answers_left}
use Rattle.kan_search.proofs.searching.Search.give_heads.Given as goal

-- what is left, behind the answers that are there
abbrev pub invariant-loop-self : goal.invariant-loop-self
invariant-loop-self g l = record {
  joined : (pulls : ℕ) → batch_then (map g.St.Store.meaning l.fn.answers) pulls (answers_left l.fn.self) ≡ batch_then (map g.St.Store.meaning l.answers) pulls (answers_left l.self);
  few : length l.answers ≤ greatest_batch;
  pulls : l.self.pulls ≡ l.fn.self.pulls;
  round : l.self.round ≡ l.fn.self.round;
  spent : l.self.spent ≡ l.fn.self.spent;
}

abbrev pub decreases-loop-self : goal.decreases-loop-self
decreases-loop-self g l = length l.self.heads
