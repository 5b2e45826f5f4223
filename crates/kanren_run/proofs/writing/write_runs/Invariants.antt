use Rattle.std.proofs.Common.{◌≡◌, map, drop}
use Rattle.std.specs.Prelude.{◌||◌}
use Rattle.kan_model.specs.Programs.Closed as programs
use Rattle.kan_model.specs.Answers.Output.{runs_output}
use Rattle.kan_model.specs.Programs.Closed.{query_of}
use Rattle.kanren_run.specs.Answers.{spends}
use Rattle.kanren_run.specs.Writing.{Written}
use Rattle.kanren_run.proofs.writing.write_runs.Given as goal

-- the runs so far are written, and it is known whether one of them spent its fuel
abbrev pub invariant-loop-query : goal.invariant-loop-query
invariant-loop-query g l = record {
  written : Written (runs_output l.names (programs.meaning l.program) l.settings.fuel (map (query_of l.program) l.queries)) (g.K.Sink.view l.fn.sink) (g.K.Sink.view l.sink)
      (runs_output l.names (programs.meaning l.program) l.settings.fuel (map (query_of l.program) (drop l.query-index l.queries)));
  spent : (l.spent || spends (programs.meaning l.program) l.settings.fuel (map (query_of l.program) (drop l.query-index l.queries))) ≡ spends (programs.meaning l.program) l.settings.fuel (map (query_of l.program) l.queries);
}
