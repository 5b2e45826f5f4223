-- What is written of runs, piece after piece.
use Rattle.std.specs.Prelude.{◌≡◌, ℕ, ◌+◌, ◌<◌, true, List, [], ◌++◌, map, length, Option, Some}
use Rattle.std.specs.Prelude.{None, Result, Ok, Err}
use Rattle.std.specs.List.{flat_map, list_all}
use Rattle.std.specs.Io.KnownBytes.{Appends}
use Rattle.kan_base.specs.Faults.{one_more}
use Rattle.kan_base.specs.Views.{SinkView}
use Rattle.kan_base.specs.Writes.{PutsFront}
use Rattle.kan_model.specs.Stores.Store.{Store}
use Rattle.kan_model.specs.Streams.Taking.{Taken}
use Rattle.kan_model.specs.Programs.Scope.{is_small}
use Rattle.kan_model.specs.Programs.Tables.{are_closed}
use Rattle.kan_model.specs.Programs.Nodes.{goal_place}
use Rattle.kan_model.specs.Programs.Closed as programs
use Rattle.kan_model.specs.declared.program.Program.{Program}
use Rattle.kan_model.specs.declared.nodes.Query.{Query}
use Rattle.kan_terms.specs.Table.{Table}
use Rattle.kan_model.specs.Answers.Output.{answer_line, summary_line}
use Rattle.kan_search.specs.Batches.{ending_of}
use Rattle.kan_model.specs.Programs.Closed.{query_of}
use Rattle.kan_search.specs.declared.batch.Ended.{Ended}
use Rattle.kan_model.specs.Answers.Answer.{HasNames}
use Rattle.kanren_run.specs.Tags.{is_body_named, is_query_named}
use Rattle.kan_model.specs.Each.{Each}
use Rattle.kanren_run.specs.declared.writing.Stop.{Stop}
use Rattle.kanren_run.specs.declared.writing.Stop.TheVariants.{Fault, Memory}

abbrev pub memory_wanted : Stop
memory_wanted = Memory

abbrev pub sink_failed : Stop
sink_failed = Fault

-- the lines of answers
abbrev pub answer_lines : Table → List Store → List ℕ
answer_lines table = flat_map (answer_line table)

-- the summary line of a run that has ended
abbrev pub end_text : ℕ → ℕ → Option Ended → List ℕ
end_text answers pulls None = []
end_text answers pulls (Some ended) = summary_line answers pulls (ending_of ended)

-- what is still to be written of a run that gave so many answers with so many pulls
abbrev pub rest_text : Table → ℕ → ℕ → Taken → List ℕ
rest_text table answers pulls t =
    answer_lines table t.stores
    ++ summary_line (answers + length t.stores) (pulls + t.pulls) t.ending

-- a front of a text is put, where one call of the sink failed, or memory is wanting and none did
abbrev pub Stops : List ℕ → SinkView → SinkView → Stop → Type 0
Stops text old new Fault = PutsFront old.put new.put text × (new.faults ≡ one_more old.faults)
Stops text old new Memory = PutsFront old.put new.put text × (new.faults ≡ old.faults)

-- a text is put whole and no call failed, or a front of it is put
abbrev pub Puts : {A : Type 0} → List ℕ → SinkView → SinkView → Result A Stop → Type 0
Puts text old new (Ok x) = Appends old.put new.put text × (new.faults ≡ old.faults)
Puts text old new (Err stop) = Stops text old new stop

-- a front of a text was put and no call failed, and this is what is left of it
pub record Written (text : List ℕ) (old new : SinkView) (rest : List ℕ) : Type 0 where
  pub front : List ℕ
  pub parts : text ≡ front ++ rest
  pub put_front : Appends old.put new.put front
  pub still : new.faults ≡ old.faults

-- what is left of a run after some of its lines were put: the lines that are still to come, less of
-- them than before, and the same end
pub record Continues (table : Table) (before : Taken) (answers pulls : ℕ) (after : Taken)
    (answers_after pulls_after : ℕ) (old new : SinkView) : Type 0 where
  pub written : Written (rest_text table answers pulls before) old new
      (rest_text table answers_after pulls_after after)
  pub named : Each (HasNames table) after.stores
  pub ending : after.ending ≡ before.ending
  pub less : length after.stores + after.pulls < length before.stores + before.pulls

-- the next lines of a run were put, and more are to come or they were the last ones; or a front of
-- all that were to come was put
abbrev pub WritesNext : Table → Taken → ℕ → ℕ → Taken → ℕ → ℕ → SinkView → SinkView →
    Result (Option Ended) Stop → Type 0
WritesNext t before n p after m q old new (Ok None) = Continues t before n p after m q old new
WritesNext t before n p after m q old new (Ok (Some ended)) =
    Appends old.put new.put (rest_text t n p before) × (new.faults ≡ old.faults)
    × (ending_of ended ≡ before.ending)
WritesNext t before n p after m q old new (Err stop) = Stops (rest_text t n p before) old new stop

-- a program may be run for some queries: nothing is open, it is small, and its tags have names
pub record CanRun (table : Table) (program : Program) (queries : List Query) : Type 0 where
  pub closed : are_closed (programs.tables program) (map goal_place queries) ≡ true
  pub small : is_small (programs.meaning program) ≡ true
  pub bodies : list_all (is_body_named table) (programs.meaning program).relations ≡ true
  pub goals : list_all (is_query_named table) (map (query_of program) queries) ≡ true
