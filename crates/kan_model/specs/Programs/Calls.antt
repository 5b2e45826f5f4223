-- Which entries of the table of goals are calls that relations answer.
use Rattle.std.specs.Prelude.{ℕ, Bool, true, false, eqb, List, Option, Some, None, slice_get}
use Rattle.kan_model.specs.Programs.Tables.{GoalEntry, RelationEntry}

-- a relation is there, and takes so many arguments
abbrev pub entry_takes : Option RelationEntry → ℕ → Bool
entry_takes None n = false
entry_takes (Some r) n = eqb r.params n

-- an entry that is a call names a relation with its number of arguments
abbrev pub call_there : List RelationEntry → GoalEntry → Bool
call_there rs (GoalEntry.call r at k) = entry_takes (slice_get rs r) k
call_there rs _ = true
