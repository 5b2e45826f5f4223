-- Bounds on the counters of stores: the top and the floor of a thunk, and which thunks fit a
-- program.
use Rattle.std.specs.Prelude.{◌≡◌, ℕ, ◌+◌, ◌^◌, min, max, true, List, [], ◌∷◌, length, slice_get}
use Rattle.std.specs.Prelude.{Contains}
use Rattle.std.specs.List.{list_all}
use Rattle.kan_model.specs.Programs.Goals.{Program}
use Rattle.kan_model.specs.Stores.Store.{Store}
use Rattle.kan_model.specs.Streams.Stream.{Stream, Thunk}
use Rattle.kan_model.specs.Programs.Scope.{width, all_below, in_scope, takes}

-- the greatest counter of stores, and at least n; the least one, and at most n
abbrev pub highest : List Store → ℕ → ℕ
highest [] n = n
highest (st ∷ sts) n = max st.counter (highest sts n)

abbrev pub lowest : List Store → ℕ → ℕ
lowest [] n = n
lowest (st ∷ sts) n = min st.counter (lowest sts n)

abbrev mutual
  -- a number that the counters of a thunk's force don't pass
  pub top : Thunk → ℕ
  top (Thunk.call r args st) = st.counter + 2 ^ 21
  top (Thunk.pause g env st) = st.counter + 2 ^ 21
  top (Thunk.swap t i) = stream_top t (top i)
  top (Thunk.bind g env i) = top i + width g

  -- the greatest of a stream's counters, its tail's top and n
  pub stream_top : Stream → ℕ → ℕ
  stream_top (Stream.ends hs) n = highest hs n
  stream_top (Stream.goes_on hs i) n = highest hs (max (top i) n)

abbrev mutual
  -- a number below which no counter of a thunk's force lies
  pub floor : Thunk → ℕ
  floor (Thunk.call r args st) = st.counter
  floor (Thunk.pause g env st) = st.counter
  floor (Thunk.swap t i) = stream_floor t (floor i)
  floor (Thunk.bind g env i) = floor i

  -- the least of a stream's counters, its tail's floor and n
  pub stream_floor : Stream → ℕ → ℕ
  stream_floor (Stream.ends hs) n = lowest hs n
  stream_floor (Stream.goes_on hs i) n = lowest hs (min (floor i) n)

abbrev mutual
  -- calls name relations with their number of arguments, and goals that wait are in the program and
  -- find their slots; all variables are there
  pub Fits : Program → Thunk → Type 0
  Fits program (Thunk.call r args st) =
      (takes (slice_get program.relations r) (length args) ≡ true)
      × (list_all (all_below st.counter) args ≡ true)
  Fits program (Thunk.pause g env st) =
      Contains program.goals g × (in_scope (length env) g ≡ true)
      × (list_all (all_below st.counter) env ≡ true)
  Fits program (Thunk.swap t i) = StreamFits program t × Fits program i
  Fits program (Thunk.bind g env i) =
      Contains program.goals g × (in_scope (length env) g ≡ true)
      × (list_all (all_below (floor i)) env ≡ true) × Fits program i

  -- the tail of a stream fits
  pub StreamFits : Program → Stream → Type 0
  StreamFits program (Stream.ends hs) = Unit {0}
  StreamFits program (Stream.goes_on hs i) = Fits program i
