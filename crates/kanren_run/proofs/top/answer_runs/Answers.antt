use Rattle.std.proofs.Common.{true, false}
use Rattle.kanren_run.specs.Outcomes.{some}
use Rattle.kanren_run.proofs.TopLaws.{runs_done, runs_stopped, stops_as}
use Rattle.kanren_run.proofs.top.answer_runs.Goals as goal

pub returns-in-Ok-true : goal.returns-in-Ok-true
returns-in-Ok-true g c text has =
    runs_done c.args.settings text c.args.names.now c.args.compiled.now.program c.args.compiled.now.queries c.items.result.now true c.in-Ok-true.field-0 _ _ c.texts_differ.ensures has c.items.ensures c.in-Ok-true.field-0-test c.in-Ok-true.ensures.spent c.in-Ok-true.ensures.puts

pub returns-in-Ok-false : goal.returns-in-Ok-false
returns-in-Ok-false g c text has =
    runs_done c.args.settings text c.args.names.now c.args.compiled.now.program c.args.compiled.now.queries c.items.result.now false c.in-Ok-false.field-0 _ _ c.texts_differ.ensures has c.items.ensures c.in-Ok-false.field-0-test c.in-Ok-false.ensures.spent c.in-Ok-false.ensures.puts

pub returns-in-Err-Fault : goal.returns-in-Err-Fault
returns-in-Err-Fault g c text has =
    let (front, more) = stops_as _ (g.K.Sink.view c.args.sink.now) (g.K.Sink.view c.write_runs.new.sink) _ _ c.in-Err-Fault.field-0-is c.in-Err-Fault.ensures.puts in
    (runs_stopped c.args.settings text c.args.names.now c.args.compiled.now.program c.args.compiled.now.queries c.items.result.now _ _ c.texts_differ.ensures has c.items.ensures front, more)

pub returns-in-Err-Memory : goal.returns-in-Err-Memory
returns-in-Err-Memory g c text has =
    let (front, still) = stops_as _ (g.K.Sink.view c.args.sink.now) (g.K.Sink.view c.write_runs.new.sink) _ _ c.in-Err-Memory.field-0-is c.in-Err-Memory.ensures.puts in
    (some (runs_stopped c.args.settings text c.args.names.now c.args.compiled.now.program c.args.compiled.now.queries c.items.result.now _ _ c.texts_differ.ensures has c.items.ensures front), still)
