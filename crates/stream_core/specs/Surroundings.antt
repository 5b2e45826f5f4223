-- What stands around a suspension, and what it makes of the suspension's stream.
use Rattle.std.specs.Prelude.{List, [], ◌∷◌}
use Rattle.kan_terms.specs.Tree.{Tm}
use Rattle.kan_model.specs.Programs.Goals.{Goal}
use Rattle.kan_model.specs.Streams.Stream.{Stream, Thunk, append, bind_all}
use Rattle.kan_model.specs.Streams.Running.{run}

-- a stream that waits behind a suspension, or a goal that waits for its stores
pub data Around : Type 0 where
  swap : Stream → Around
  bind : Goal → List Tm → Around

-- a suspension with what stands around it
abbrev pub within : Around → Thunk → Thunk
within (Around.swap t) i = Thunk.swap t i
within (Around.bind g env) i = Thunk.bind g env i

-- the same for all that stands around it, the innermost first
abbrev pub within_all : List Around → Thunk → Thunk
within_all [] i = i
within_all (a ∷ around) i = within_all around (within a i)

-- what it makes of the suspension's stream
abbrev pub made_within : Around → Stream → Stream
made_within (Around.swap t) s = append t s
made_within (Around.bind g env) s = bind_all (run g env) g env s
