use Rattle.std.proofs.Common.{map}
use Rattle.kan_search.specs.Searches.{answers_left}
use Rattle.kanren_run.proofs.WritingLaws.{next_written, next_stopped, next_wanted, batch_named, batch_counted}
use Rattle.kanren_run.proofs.writing.write_next.Goals as goal

pub returns-in_err-batch-clause-next : goal.returns-in_err-batch-clause-next
returns-in_err-batch-clause-next g c =
    next_wanted c.args.names.now _ _ _ _ _ _ (g.K.Sink.view c.args.sink.now) c.from_residual.result c.from_residual.ensures.1

pub returns-in_err-answers-clause-next : goal.returns-in_err-answers-clause-next
returns-in_err-answers-clause-next g c =
    next_wanted c.args.names.now _ _ _ _ _ _ (g.K.Sink.view c.args.sink.now) c.from_residual-in_err-answers.result c.from_residual-in_err-answers.ensures.1

pub write_batch-requires : goal.write_batch-requires
write_batch-requires g c = batch_named c.args.names.now _ _ _ _ _ _ _ c.in_ok-batch.ensures.batch c.requires.named

pub returns-in-Ok-clause-next : goal.returns-in-Ok-clause-next
returns-in-Ok-clause-next g c =
    next_written c.args.names.now c.args.search.now.round (answers_left c.args.search.now) c.args.answers.now c.args.search.now.pulls (map g.St.Store.meaning c.in_ok-batch.batch.answers) c.in_ok-batch.batch.ended
    (answers_left c.advance_alone.new.self) c.in_ok-answers.field-0 c.advance_alone.new.self.pulls c.pulls.result
    (g.K.Sink.view c.args.sink.now) (g.K.Sink.view c.write_batch.new.sink)
    c.requires.round c.requires.named c.in_ok-batch.ensures.batch
    (batch_counted g.St.Store.meaning c.in_ok-batch.batch.answers _ _ c.len.result c.in_ok-answers.ensures c.len.ensures) c.pulls.ensures c.in-Ok.ensures

pub returns-clause-next : goal.returns-clause-next
returns-clause-next g c =
    next_stopped c.args.names.now c.args.search.now.round (answers_left c.args.search.now) c.args.answers.now c.args.search.now.pulls (map g.St.Store.meaning c.in_ok-batch.batch.answers) c.in_ok-batch.batch.ended
    (answers_left c.advance_alone.new.self) c.in_ok-answers.field-0 c.advance_alone.new.self.pulls c.pulls.result
    (g.K.Sink.view c.args.sink.now) (g.K.Sink.view c.write_batch.new.sink) c.in-Err.stop
    c.in_ok-batch.ensures.batch
    (batch_counted g.St.Store.meaning c.in_ok-batch.batch.answers _ _ c.len.result c.in_ok-answers.ensures c.len.ensures) c.pulls.ensures c.in-Err.ensures
