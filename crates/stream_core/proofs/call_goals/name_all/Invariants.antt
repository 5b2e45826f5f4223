use Rattle.std.proofs.Common.{◌+◌, ◌≤◌, map, take}
use Rattle.kan_terms.specs.Terms.{tree}
use Rattle.kan_model.specs.Streams.Running.{instances}
use Rattle.kan_model.specs.Programs.Environments.{terms_of}
use Rattle.kan_model.specs.Programs.Closed as programs
use Rattle.stream_core.specs.CallArguments.{NamesFirst}
use Rattle.stream_core.proofs.call_goals.name_all.Given as goal

abbrev pub invariant-loop-term : goal.invariant-loop-term
invariant-loop-term g l = record {
  names : NamesFirst (g.St.Store.meaning l.fn.store)
      (instances (terms_of l.env) (map (programs.template l.program) (take l.term-index l.arguments))) (map tree l.values.items) (g.St.Store.meaning l.after);
  above : (g.St.Store.meaning l.fn.store).counter ≤ (g.St.Store.meaning l.after).counter;
  within : (g.St.Store.meaning l.after).counter ≤ (g.St.Store.meaning l.fn.store).counter + l.term-index;
}
