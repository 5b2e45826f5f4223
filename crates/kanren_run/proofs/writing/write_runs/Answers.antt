use Rattle.std.proofs.Common.{ap, ◌∙◌}
use Rattle.kan_model.specs.Programs.Closed as programs
use Rattle.kan_model.specs.Programs.Closed.{query_of}
use Rattle.kan_grammar.specs.Texts.Reply.{is_spent}
use Rattle.kanren_run.proofs.WritingLaws.{can-at, err_puts, runs-written, runs-stopped, spends-at}
use Rattle.kanren_run.proofs.writing.write_runs.Goals as goal

pub write_query-requires-clause-can_run : goal.write_query-requires-clause-can_run
write_query-requires-clause-can_run g c = can-at c.args.names.now c.args.program.now c.args.queries.now c.loop-query.query-index _ c.loop-query-test.true c.requires.can_run

pub returns-in_err-ended-clause-puts : goal.returns-in_err-ended-clause-puts
returns-in_err-ended-clause-puts g c =
    err_puts _ _ _ c.in_err-ended.field-0.0 c.from_residual.result c.from_residual.ensures.1
    (runs-stopped c.args.names.now (programs.meaning c.args.program.now) c.args.settings.fuel (query_of c.args.program.now) c.args.queries.now c.loop-query.query-index _ _ c.in_err-ended.field-0.0
    _ _ _ c.loop-query-test.true c.loop-query.invariant.written c.in_err-ended.ensures.puts)

pub loop-query-preserved : goal.loop-query-preserved
loop-query-preserved g c = record {
  written = runs-written c.args.names.now (programs.meaning c.args.program.now) c.args.settings.fuel (query_of c.args.program.now) c.args.queries.now c.loop-query.query-index _ _ _ _ _ c.loop-query-test.true c.loop-query.invariant.written c.in_ok-ended.ensures.puts;
  spent = spends-at (programs.meaning c.args.program.now) c.args.settings.fuel (query_of c.args.program.now) c.args.queries.now c.loop-query.query-index _ c.loop-query.spent c.ended_by_fuel-spent.result _ c.loop-query-test.true
      (c.ended_by_fuel-spent.ensures ∙ ap is_spent c.in_ok-ended.ensures.ended) c.loop-query.invariant.spent;
}
