use Rattle.std.proofs.Common.{◌≡◌, ◌+◌, ◌-◌, ◌≤◌, length, map}
use Rattle.kan_search.specs.Batches.{batch_then, greatest_batch}
use Rattle.kan_search.specs.Searches.{answers_left}
use Rattle.kan_search.proofs.searching.Search.next_batch.Given as goal

-- what is left, behind the answers that are there and the pulls that were made
abbrev pub invariant-loop-answers : goal.invariant-loop-answers
invariant-loop-answers g l = record {
  joins : answers_left l.fn.self ≡ batch_then (map g.St.Store.meaning l.answers) l.made (answers_left l.self);
  counted : l.self.pulls ≡ l.fn.self.pulls + l.made;
  few : length l.answers ≤ greatest_batch;
  within : l.made ≤ l.fn.self.round;
  round : l.self.round ≡ l.fn.self.round;
  spent : l.self.spent ≡ l.fn.self.spent;
}

abbrev pub decreases-loop-answers : goal.decreases-loop-answers
decreases-loop-answers g l = l.fn.self.round - l.made
