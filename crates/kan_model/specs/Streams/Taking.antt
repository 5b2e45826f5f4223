-- Taking answers from a stream, up to a limit of answers and a number of pulls, the fuel.
use Rattle.std.specs.Prelude.{ℕ, zero, suc, List, [], ◌∷◌, Option, Some, None}
use Rattle.kan_model.specs.Programs.Goals.{Program, Query}
use Rattle.kan_model.specs.Stores.Store.{Store}
use Rattle.kan_model.specs.Streams.Stream.{Stream}
use Rattle.kan_model.specs.Streams.Running.{force, start}

-- how a run ends
pub data Ending : Type 0 where
  end : Ending
  limit : Ending
  fuel : Ending

-- what was taken: the stores, how many pulls that took, and the ending
pub record Taken : Type 0 where
  pub stores : List Store
  pub pulls : ℕ
  pub ending : Ending

abbrev pub nothing_more : Ending → Taken
nothing_more e = record { stores = []; pulls = 0; ending = e }

abbrev pub with_answer : Store → Taken → Taken
with_answer st t = record { stores = st ∷ t.stores; pulls = t.pulls; ending = t.ending }

abbrev pub with_pull : Taken → Taken
with_pull t = record { stores = t.stores; pulls = suc t.pulls; ending = t.ending }

-- what is left of a limit after one answer
abbrev pub less_one : Option ℕ → Option ℕ
less_one None = None
less_one (Some zero) = Some zero
less_one (Some (suc n)) = Some n

-- heads are given until the limit is reached; then comes what is taken with what is left of the
-- limit
abbrev pub give : (Option ℕ → Taken) → List Store → Option ℕ → Taken
give others hs (Some zero) = nothing_more Ending.limit
give others [] l = others l
give others (st ∷ sts) l = with_answer st (give others sts (less_one l))

-- the limit is looked at first, then the heads, then the end of the stream, then the fuel; else one
-- pull is made
abbrev pub take : Program → ℕ → Stream → Option ℕ → Taken
take program zero (Stream.ends hs) l = give (λ rest. nothing_more Ending.end) hs l
take program zero (Stream.goes_on hs i) l = give (λ rest. nothing_more Ending.fuel) hs l
take program (suc f) (Stream.ends hs) l = give (λ rest. nothing_more Ending.end) hs l
take program (suc f) (Stream.goes_on hs i) l =
    give (λ rest. with_pull (take program f (force program i) rest)) hs l

-- what a run gives at a fuel
abbrev pub take_query : Program → ℕ → Query → Taken
take_query program f q = take program f (start q.goal) q.limit

-- the stores that a stream gives within some pulls
abbrev pub stores_within : Program → ℕ → Stream → List Store
stores_within program pulls s = (take program pulls s None).stores
