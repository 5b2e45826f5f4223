-- The program that the tests run: a relation without arguments that holds, and holds again where it
-- holds twice. Its stream has no end, and has suspensions of all kinds but pauses.
use Rattle.std.specs.Prelude.{[], ◌∷◌}
use Rattle.kan_model.specs.Programs.Goals.{Program}
use Rattle.kan_model.specs.Programs.Tables.{Tables, GoalEntry, program_of}

-- no entries
abbrev pub no_tables : Tables
no_tables = record { terms = []; arguments = []; goals = []; relations = [] }

-- its goals
abbrev pub goal_tables : Tables
goal_tables = record {
  terms = [];
  arguments = [];
  goals = GoalEntry.succeed ∷ GoalEntry.call 0 0 0 ∷ GoalEntry.both 1 1 ∷ GoalEntry.either 0 2 ∷ [];
  relations = [];
}

-- and the relation
abbrev pub endless_tables : Tables
endless_tables = record {
  terms = [];
  arguments = [];
  goals = GoalEntry.succeed ∷ GoalEntry.call 0 0 0 ∷ GoalEntry.both 1 1 ∷ GoalEntry.either 0 2 ∷ [];
  relations = record { name = 0; params = 0; body = 3 } ∷ [];
}

abbrev pub endless : Program
endless = program_of endless_tables
