-- What suspensions and streams of the code stand for, given what their ids, stores and goals do.
use Rattle.std.specs.Prelude.{◌≡◌, ℕ, List, map, Option, Some, None, option_map, IfSome}
use Rattle.kan_model.specs.Programs.Goals.{Goal, Program}
use Rattle.kan_model.specs.Programs.Tables.{goal_at}
use Rattle.kan_model.specs.Stores.Store as facts
use Rattle.kan_model.specs.Streams.Stream as model
use Rattle.kan_model.specs.Streams.Running.{force}
use Rattle.kan_model.specs.Programs.Environments.{terms_of}
use Rattle.stream_core.specs.declared.streams.Thunk.{Thunk}
use Rattle.stream_core.specs.declared.streams.Thunk.TheVariants.{Call, Pause, Swap, Bind}
use Rattle.stream_core.specs.declared.streams.Stream.{Stream}

-- stores, and then the end or a thunk
abbrev pub going_on : List facts.Store → Option model.Thunk → model.Stream
going_on hs None = model.Stream.ends hs
going_on hs (Some t) = model.Stream.goes_on hs t

module _ {I St : Type 0} where
  -- the stream that heads and a tail stand for
  abbrev pub stream_of_parts : (I → model.Thunk) → (St → facts.Store) → List St → Option I →
      model.Stream
  stream_of_parts tree means heads tail = going_on (map means heads) (option_map tree tail)

  abbrev pub stream : (I → model.Thunk) → (St → facts.Store) → Stream I St → model.Stream
  stream tree means s = stream_of_parts tree means s.heads s.tail

  abbrev pub thunk : (I → model.Thunk) → (St → facts.Store) → (ℕ → Goal) → Thunk I St → model.Thunk
  thunk tree means goal (Call rel args store) = model.Thunk.call rel (terms_of args) (means store)
  thunk tree means goal (Pause g env store) =
      model.Thunk.pause (goal g) (terms_of env) (means store)
  thunk tree means goal (Swap heads tail inner) =
      model.Thunk.swap (stream_of_parts tree means heads tail) (tree inner)
  thunk tree means goal (Bind g env inner) = model.Thunk.bind (goal g) (terms_of env) (tree inner)

  -- the id inside a suspension, where there is one
  abbrev pub inner_id : Thunk I St → Option I
  inner_id (Call rel args store) = None
  inner_id (Pause g env store) = None
  inner_id (Swap heads tail inner) = Some inner
  inner_id (Bind g env inner) = Some inner

  -- all ids in a stream belong, and all in a suspension
  abbrev pub StreamBelongs : (I → Type 0) → Stream I St → Type 0
  StreamBelongs belongs s = IfSome s.tail belongs

  abbrev pub ThunkBelongs : (I → Type 0) → Thunk I St → Type 0
  ThunkBelongs belongs (Call rel args store) = Unit {0}
  ThunkBelongs belongs (Pause g env store) = Unit {0}
  ThunkBelongs belongs (Swap heads tail inner) = IfSome tail belongs × belongs inner
  ThunkBelongs belongs (Bind g env inner) = belongs inner

-- the goal at a place of a program
abbrev pub goal_in : Program → ℕ → Goal
goal_in program i = goal_at program.goals i

-- what belonged belongs still, and stands for what it stood for
abbrev pub Stays : {I : Type 0} → (I → Type 0) → (I → model.Thunk) → (I → Type 0) →
    (I → model.Thunk) → Type 0
Stays {I} belonged was belongs is = (id : I) → belonged id → belongs id × (is id ≡ was id)

-- a stream that is the force of a thunk, and whose ids belong
abbrev pub ForceOf : {I St : Type 0} → (I → Type 0) → (I → model.Thunk) → (St → facts.Store) →
    Program → model.Thunk → Stream I St → Type 0
ForceOf belongs tree means program t s =
    StreamBelongs belongs s × (stream tree means s ≡ force program t)
