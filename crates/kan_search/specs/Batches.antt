-- What an advance of a search gives, compared with what was left before it and what is left after
-- it.
use Rattle.std.specs.Prelude.{◌≡◌, ℕ, ◌+◌, ◌≤◌, ◌⊎◌, List, [], ◌++◌, length, Option, Some, None}
use Rattle.kan_model.specs.Stores.Store.{Store}
use Rattle.kan_model.specs.Streams.Stream.{Stream, heads}
use Rattle.kan_model.specs.Streams.Taking.{Taken, Ending, nothing_more}
use Rattle.kan_search.specs.declared.batch.Ended.{Ended}
use Rattle.kan_search.specs.declared.batch.Ended.TheVariants.{End, Limit, Fuel}

abbrev pub ending_of : Ended → Ending
ending_of End = Ending.end
ending_of Limit = Ending.limit
ending_of Fuel = Ending.fuel

-- some answers after some pulls, and then what is taken of what is left
abbrev pub batch_then : List Store → ℕ → Taken → Taken
batch_then answers pulls rest =
    record { stores = answers ++ rest.stores; pulls = pulls + rest.pulls; ending = rest.ending }

-- how many answers a batch has at most
abbrev pub greatest_batch : ℕ
greatest_batch = 1024

-- a run that has ended gives no more and ends so; one that has not gave as many answers as a batch
-- has, or made as many pulls as a round has
abbrev pub EndsSo : ℕ → ℕ → ℕ → Option Ended → Taken → Type 0
EndsSo round answers pulls (Some e) after = after ≡ nothing_more (ending_of e)
EndsSo round answers pulls None after = (answers ≡ greatest_batch) ⊎ (pulls ≡ round)

-- a batch that doesn't end its run is full, or gave all stores that the stream had
abbrev pub GaveAll : ℕ → Option Ended → Stream → Type 0
GaveAll answers (Some e) rest = Unit {0}
GaveAll answers None rest = (answers ≡ greatest_batch) ⊎ (heads rest ≡ [])

-- what was left before a batch is the batch joined with what is left after it, and the pulls are
-- counted
pub record Advances (round : ℕ) (before : Taken) (pulls : ℕ) (answers : List Store)
    (ended : Option Ended) (after : Taken) (pulls_after : ℕ) : Type 0 where
  pub made : ℕ
  pub counted : pulls_after ≡ pulls + made
  pub within : made ≤ round
  pub joins : before ≡ batch_then answers made after
  pub few : length answers ≤ greatest_batch
  pub ends : EndsSo round (length answers) made ended after
