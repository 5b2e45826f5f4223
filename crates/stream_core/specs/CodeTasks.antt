-- What tasks of the code, and stacks of them, stand for.
use Rattle.std.specs.Prelude.{ℕ, List, [], ◌∷◌, ◌++◌}
use Rattle.kan_model.specs.Programs.Goals.{Goal}
use Rattle.kan_model.specs.Stores.Store as facts
use Rattle.kan_model.specs.Streams.Stream as model
use Rattle.kan_model.specs.Programs.Environments.{terms_of}
use Rattle.kan_model.specs.Programs.Closed as programs
use Rattle.kan_model.specs.declared.program.Program.{Program}
use Rattle.stream_core.specs.Tables.{Table, stream_in}
use Rattle.stream_core.specs.declared.streams.Stream.{Stream}
use Rattle.stream_core.specs.Tasks as pending
use Rattle.stream_core.specs.declared.tasks.Task.{Task}
use Rattle.stream_core.specs.declared.tasks.Task.TheVariants.{Run, Append, AppendEmpty, Bind}

abbrev pub task : {St : Type 0} → (St → facts.Store) → (ℕ → Goal) → Task St → pending.Task
task means goal (Run g env st) = pending.Task.run_at (goal g) (terms_of env) (means st)
task means goal Append = pending.Task.append_two
task means goal AppendEmpty = pending.Task.append_empty
task means goal (Bind g env) = pending.Task.bind_to (goal g) (terms_of env)

-- what the items of a stack stand for, the last one first
abbrev pub stack : {X Y : Type 0} → (X → Y) → List X → List Y
stack f [] = []
stack f (x ∷ xs) = stack f xs ++ f x ∷ []

-- what stacks of tasks and of streams of the code stand for
abbrev pub tasks_of : {St : Type 0} → Program → (St → facts.Store) → List (Task St) →
    List pending.Task
tasks_of p means ts = stack (task means (programs.goal p)) ts

abbrev pub streams_of : {I St : Type 0} → Table I → (St → facts.Store) → List (Stream I St) →
    List model.Stream
streams_of t means ss = stack (stream_in t means) ss
