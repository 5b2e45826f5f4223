-- Streams as data: stores, and then the end or a suspension, which is a finite tree.
use Rattle.std.specs.Prelude.{◌≡◌, ℕ, List, [], ◌∷◌, ◌++◌}
use Rattle.kan_terms.specs.Tree.{Tm}
use Rattle.kan_model.specs.Programs.Goals.{Goal}
use Rattle.kan_model.specs.Stores.Store.{Store}

mutual
  -- a stream has stores for its heads, and then ends, or goes on with a thunk
  pub data Stream : Type 0 where
    ends : List Store → Stream
    goes_on : List Store → Thunk → Stream

  -- a thunk is a call of a relation at a store, a goal that pauses at a store, a stream that waits
  -- behind a thunk, or a goal that waits for a thunk's stores
  pub data Thunk : Type 0 where
    call : ℕ → List Tm → Store → Thunk
    pause : Goal → List Tm → Store → Thunk
    swap : Stream → Thunk → Thunk
    bind : Goal → List Tm → Thunk → Thunk

abbrev pub empty : Stream
empty = Stream.ends []

abbrev pub one : Store → Stream
one st = Stream.ends (st ∷ [])

abbrev pub heads : Stream → List Store
heads (Stream.ends hs) = hs
heads (Stream.goes_on hs i) = hs

-- the heads of the left stream, and then the right one; where the left one is suspended, the right
-- one goes first
abbrev pub append : Stream → Stream → Stream
append (Stream.ends hs) (Stream.ends ks) = Stream.ends (hs ++ ks)
append (Stream.ends hs) (Stream.goes_on ks i) = Stream.goes_on (hs ++ ks) i
append (Stream.goes_on hs i) t = Stream.goes_on hs (Thunk.swap t i)

-- what a goal gives at each of the stores, appended, and then a last stream
abbrev pub append_each : (Store → Stream) → List Store → Stream → Stream
append_each goal_at [] last = last
append_each goal_at (st ∷ sts) last = append (goal_at st) (append_each goal_at sts last)

-- the goal, which gives goal_at, at each store of a stream: where the stream is suspended, the goal
-- waits for it
abbrev pub bind_all : (Store → Stream) → Goal → List Tm → Stream → Stream
bind_all goal_at g env (Stream.ends hs) = append_each goal_at hs empty
bind_all goal_at g env (Stream.goes_on hs i) =
    append_each goal_at hs (Stream.goes_on [] (Thunk.bind g env i))

-- the empty stream in front changes nothing
abbrev pub AppendEmpty : Type 0
AppendEmpty = (t : Stream) → append empty t ≡ t
