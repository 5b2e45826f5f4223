-- The small program that the tests run.
use Rattle.std.specs.Prelude.{[], ◌∷◌}
use Rattle.kan_model.specs.Programs.Tables.{Tables, TermEntry, GoalEntry}

-- no entries
abbrev pub no_tables : Tables
no_tables = record { terms = []; arguments = []; goals = []; relations = [] }

-- a pair of two slots
abbrev pub pair_tables : Tables
pair_tables =
    record {
      terms = TermEntry.slot 0 ∷ TermEntry.slot 1 ∷ TermEntry.pair 0 1 ∷ [];
      arguments = [];
      goals = [];
      relations = [];
    }

-- and a relation without arguments that always holds
abbrev pub small_tables : Tables
small_tables = record {
  terms = TermEntry.slot 0 ∷ TermEntry.slot 1 ∷ TermEntry.pair 0 1 ∷ [];
  arguments = 2 ∷ [];
  goals = GoalEntry.succeed ∷ [];
  relations = record { name = 0; params = 0; body = 0 } ∷ [];
}

-- the goal that holds, a call, and the goal of which one of both holds
abbrev pub endless_goals : Tables
endless_goals = record {
  terms = [];
  arguments = [];
  goals = GoalEntry.succeed ∷ GoalEntry.call 0 0 0 ∷ GoalEntry.either 0 1 ∷ [];
  relations = [];
}

-- and a goal that waits, and a relation that holds or else is called again
abbrev pub endless_tables : Tables
endless_tables = record {
  terms = [];
  arguments = [];
  goals = GoalEntry.succeed ∷ GoalEntry.call 0 0 0 ∷ GoalEntry.either 0 1 ∷ GoalEntry.later 0 ∷ [];
  relations = record { name = 0; params = 0; body = 2 } ∷ [];
}
