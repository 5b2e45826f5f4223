-- The suspensions of a search's table, and how many variables they have taken at most.
use Rattle.std.specs.Prelude.{ℕ, ◌+◌, ◌*◌, ◌^◌, ◌≤◌, List, map, reverse, Option, option_map}
use Rattle.kan_model.specs.Stores.Store as facts
use Rattle.kan_model.specs.Streams.Stream as model
use Rattle.kan_model.specs.Streams.Bounds.{top}
use Rattle.stream_core.specs.Suspensions.{going_on}

-- the stream of stores, the next one last, and of what comes behind them
abbrev pub pulled_stream : {I St : Type 0} → (I → model.Thunk) → (St → facts.Store) → List St →
    Option I → model.Stream
pulled_stream tree means heads tail = going_on (map means (reverse heads)) (option_map tree tail)

-- what a run goes on with after some pulls: its goal, that goal's calls, and each pull take at most
-- 2^21 variables
abbrev pub LeavesRoom : ℕ → model.Thunk → Type 0
LeavesRoom pulls t = top t ≤ (pulls + 2) * 2 ^ 21
