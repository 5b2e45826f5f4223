-- What is left to be done while goals are run: tasks on a stack, and the streams that earlier tasks
-- left for them.
use Rattle.std.specs.Prelude.{◌≡◌, ℕ, ◌+◌, ◌≤◌, ◌<◌, ◌^◌, true, List, [], ◌∷◌, ◌++◌, length}
use Rattle.std.specs.Prelude.{Contains}
use Rattle.std.specs.List.{list_all}
use Rattle.kan_terms.specs.Tree.{Tm}
use Rattle.kan_model.specs.Each.{Each}
use Rattle.kan_model.specs.Programs.Goals.{Goal, Program}
use Rattle.kan_model.specs.Stores.Store.{Store, with_fresh}
use Rattle.kan_model.specs.Streams.Stream.{Stream, Thunk, heads, append, bind_all, empty}
use Rattle.kan_model.specs.Streams.Running.{run, variables}
use Rattle.kan_model.specs.Programs.Scope.{width, all_below, in_scope}
use Rattle.kan_model.specs.Streams.Bounds.{floor}

-- to run a goal at a store, to append the two streams on top, to append the empty stream to the one
-- on top, or to bind a goal to the one on top
pub data Task : Type 0 where
  run_at : Goal → List Tm → Store → Task
  append_two : Task
  append_empty : Task
  bind_to : Goal → List Tm → Task

-- the streams that are there when all tasks are done, the last one first
abbrev pub streams_after : List Task → List Stream → List Stream
streams_after [] vs = vs
streams_after (Task.run_at g env st ∷ ts) vs = streams_after ts (run g env st ∷ vs)
streams_after (Task.append_two ∷ ts) (s ∷ t ∷ vs) = streams_after ts (append s t ∷ vs)
streams_after (Task.append_two ∷ ts) vs = vs
streams_after (Task.append_empty ∷ ts) (s ∷ vs) = streams_after ts (append s empty ∷ vs)
streams_after (Task.append_empty ∷ ts) [] = []
streams_after (Task.bind_to g env ∷ ts) (s ∷ vs) =
    streams_after ts (bind_all (run g env) g env s ∷ vs)
streams_after (Task.bind_to g env ∷ ts) [] = []

-- the variables are there, and enough numbers are left for those that the goal takes
abbrev pub HasRoom : Goal → List Tm → Store → Type 0
HasRoom g env st = (list_all (all_below st.counter) env ≡ true) × (st.counter + width g ≤ 2 ^ 63)

-- the variables are there, and enough numbers are left for any goal
abbrev pub AreBelow : List Tm → Store → Type 0
AreBelow env st = (list_all (all_below st.counter) env ≡ true) × (st.counter ≤ 2 ^ 62)

-- a goal is one of the program and finds its slots
abbrev pub IsOf : Program → Goal → List Tm → Type 0
IsOf program g env = Contains program.goals g × (in_scope (length env) g ≡ true)

-- variables are there for whatever a stream goes on with
abbrev pub AreBelowRest : List Tm → Stream → Type 0
AreBelowRest env (Stream.ends hs) = Unit {0}
AreBelowRest env (Stream.goes_on hs i) = list_all (all_below (floor i)) env ≡ true

-- a goal may be run at a store, and may be bound to a stream
abbrev pub MayRun : Program → Goal → List Tm → Store → Type 0
MayRun program g env st = IsOf program g env × HasRoom g env st

abbrev pub MayBind : Program → Goal → List Tm → Stream → Type 0
MayBind program g env s = IsOf program g env × Each (HasRoom g env) (heads s) × AreBelowRest env s

-- each task finds its streams, and may be done
abbrev pub AreReady : Program → List Task → List Stream → Type 0
AreReady program [] vs = Unit {0}
AreReady program (Task.run_at g env st ∷ ts) vs =
    MayRun program g env st × AreReady program ts (run g env st ∷ vs)
AreReady program (Task.append_two ∷ ts) (s ∷ t ∷ vs) = AreReady program ts (append s t ∷ vs)
AreReady program (Task.append_two ∷ ts) vs = ⊥
AreReady program (Task.append_empty ∷ ts) (s ∷ vs) = AreReady program ts (append s empty ∷ vs)
AreReady program (Task.append_empty ∷ ts) [] = ⊥
AreReady program (Task.bind_to g env ∷ ts) (s ∷ vs) =
    MayBind program g env s × AreReady program ts (bind_all (run g env) g env s ∷ vs)
AreReady program (Task.bind_to g env ∷ ts) [] = ⊥

-- the sum of a number for each store
abbrev pub for_each : (Store → ℕ) → List Store → ℕ
for_each f [] = 0
for_each f (st ∷ sts) = for_each f sts + (f st + 1)

-- how many tasks it takes to run a goal
abbrev pub count : Goal → List Tm → Store → ℕ
count (Goal.prim p) env st = 1
count Goal.succeed env st = 1
count Goal.fail env st = 1
count (Goal.both g h) env st =
    count g env st + (for_each (count h env) (heads (run g env st)) + 1) + 1
count (Goal.either g h) env st = count h env st + (count g env st + 1) + 1
count (Goal.fresh k g) env st = count g (env ++ variables st.counter k) (with_fresh st k) + 1
count (Goal.later g) env st = 1
count (Goal.call r args) env st = 1

-- how many tasks it takes until all are done
abbrev pub tasks_to_do : List Task → List Stream → ℕ
tasks_to_do [] vs = 0
tasks_to_do (Task.run_at g env st ∷ ts) vs = count g env st + tasks_to_do ts (run g env st ∷ vs)
tasks_to_do (Task.append_two ∷ ts) (s ∷ t ∷ vs) = tasks_to_do ts (append s t ∷ vs) + 1
tasks_to_do (Task.append_two ∷ ts) vs = 0
tasks_to_do (Task.append_empty ∷ ts) (s ∷ vs) = tasks_to_do ts (append s empty ∷ vs) + 1
tasks_to_do (Task.append_empty ∷ ts) [] = 0
tasks_to_do (Task.bind_to g env ∷ ts) (s ∷ vs) =
    for_each (count g env) (heads s) + tasks_to_do ts (bind_all (run g env) g env s ∷ vs) + 1
tasks_to_do (Task.bind_to g env ∷ ts) [] = 0

-- tasks and streams that come from others by one task: the same is there in the end, all tasks are
-- ready, and fewer are left
pub record Becomes (program : Program) (ts : List Task) (vs : List Stream) (us : List Task)
    (ws : List Stream) : Type 0 where
  pub same : streams_after us ws ≡ streams_after ts vs
  pub ready : AreReady program ts vs → AreReady program us ws
  pub fewer : AreReady program ts vs → tasks_to_do us ws < tasks_to_do ts vs

-- a goal at each store, the last one first, each followed by an appending
abbrev pub run_each : Goal → List Tm → List Store → List Task → List Task
run_each g env [] ts = ts
run_each g env (st ∷ sts) ts = run_each g env sts (Task.run_at g env st ∷ Task.append_two ∷ ts)

-- what waits behind the stores of a stream that a goal is bound to
abbrev pub bound_last : Goal → List Tm → Stream → Stream
bound_last g env (Stream.ends hs) = empty
bound_last g env (Stream.goes_on hs i) = Stream.goes_on [] (Thunk.bind g env i)
