-- What a search stands for: what taking gives of what is left of its run, and what it counts.
use Rattle.std.specs.Prelude.{◌≡◌, ℕ, Bool}
use Rattle.kan_model.specs.Streams.Stream as model
use Rattle.kan_model.specs.Streams.Taking.{Taken, take, nothing_more}
use Rattle.stream_core.specs.Suspensions.{going_on}
use Rattle.kan_search.specs.Batches.{ending_of}
use Rattle.kan_search.specs.Rests.{Rest}
use Rattle.kan_search.specs.Waiting.{WantsPull}
use Rattle.kan_search.specs.declared.batch.Next.{Next}
use Rattle.kan_search.specs.declared.batch.Next.TheVariants.{Ends, Pulls}

-- the stream that is left
abbrev pub stream_left : Rest → model.Stream
stream_left s = going_on s.heads s.next

-- what is taken of it with the fuel and the limit that are left
abbrev pub answers_left : Rest → Taken
answers_left s = take s.program s.fuel (stream_left s) s.limit

-- how many pulls were made
abbrev pub pulls_made : Rest → ℕ
pulls_made s = s.pulls

-- how many pulls a batch makes at most
abbrev pub round_of : Rest → ℕ
round_of s = s.round

-- memory was wanting, so that nothing is known of what is left
abbrev pub is_spent : Rest → Bool
is_spent s = s.spent

-- what comes where no store may be given before a pull
abbrev pub ComesNext : Rest → Next → Type 0
ComesNext s (Ends ended) = answers_left s ≡ nothing_more (ending_of ended)
ComesNext s Pulls = WantsPull s.limit s.heads s.next s.fuel
