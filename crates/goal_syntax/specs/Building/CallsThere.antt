-- Goals whose calls name relations that are there, by the entries of a table of relations.
use Rattle.std.specs.Prelude.{◌≡◌, Bool, true, ◌&&◌, List, length, slice_get}
use Rattle.std.specs.List.{list_all}
use Rattle.kan_model.specs.Programs.Goals.{Goal, Relation, Query}
use Rattle.kan_model.specs.Programs.Calls.{call_there, entry_takes}
use Rattle.kan_grammar.specs.Texts.Sited.{Sited}
use Rattle.kan_model.specs.Programs.Tables.{GoalEntry, RelationEntry, Tables}
use Rattle.goal_syntax.specs.Building.TemplateHeights.{KeepsLow}

-- each call in a goal names a relation of these entries and has as many arguments as that takes
abbrev pub calls_named : List RelationEntry → Goal → Bool
calls_named rs (Goal.prim p) = true
calls_named rs Goal.succeed = true
calls_named rs Goal.fail = true
calls_named rs (Goal.both g h) = calls_named rs g && calls_named rs h
calls_named rs (Goal.either g h) = calls_named rs g && calls_named rs h
calls_named rs (Goal.fresh k g) = calls_named rs g
calls_named rs (Goal.later g) = calls_named rs g
calls_named rs (Goal.call r args) = entry_takes (slice_get rs r) (length args)

-- the same of the bodies of relations, and of the goals of runs
abbrev pub bodies_named : List Relation → List RelationEntry → Bool
bodies_named rs rows = list_all (λ r. calls_named rows r.body) rs

abbrev pub queries_named : List Query → List RelationEntry → Bool
queries_named qs rows = list_all (λ q. calls_named rows q.goal) qs

abbrev pub all_named : List Relation → List Query → List RelationEntry → Bool
all_named rs qs rows = bodies_named rs rows && queries_named qs rows

-- all calls of a table of goals are there
abbrev pub are_there : List RelationEntry → List GoalEntry → Bool
are_there rows = list_all (call_there rows)

-- what came to tables keeps templates low, and its calls are there exactly where a test says so
pub record KeepsClosed (ds : List Sited) (ts us : Tables) (passes : List RelationEntry →
    Bool) : Type 0 where
  pub low : KeepsLow ds ts us
  pub called : (rows : List RelationEntry) → are_there rows us.goals
      ≡ (are_there rows ts.goals && passes rows)
