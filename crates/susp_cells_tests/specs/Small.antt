-- The small program that the tests run, and the suspension of its call.
use Rattle.std.specs.Prelude.{[], ◌∷◌}
use Rattle.kan_model.specs.Programs.Goals.{Program}
use Rattle.kan_model.specs.Programs.Tables.{Tables, GoalEntry, program_of}
use Rattle.kan_model.specs.Stores.Store.{bare}
use Rattle.kan_model.specs.Streams.Stream as model

-- no entries
abbrev pub no_tables : Tables
no_tables = record { terms = []; arguments = []; goals = []; relations = [] }

-- a relation without arguments that always holds
abbrev pub small_tables : Tables
small_tables = record {
  terms = [];
  arguments = [];
  goals = GoalEntry.succeed ∷ [];
  relations = record { name = 0; params = 0; body = 0 } ∷ [];
}

abbrev pub small : Program
small = program_of small_tables

-- its call at the empty store
abbrev pub small_call : model.Thunk
small_call = model.Thunk.call 0 [] (bare 0)
