use Rattle.std.proofs.Common.{sym, subst, ◌≡◌}
use Rattle.std.specs.Io.KnownBytes.{Appends}
use Rattle.std.proofs.lemmas.Bool.{and_parts}
use Rattle.kan_model.specs.Programs.Closed as programs
use Rattle.kan_model.specs.Programs.Closed.{query_of}
use Rattle.kan_model.specs.Answers.Answer.{HasNames}
use Rattle.kan_model.specs.Each.{Each}
use Rattle.kanren_run.specs.Writing.{Stops}
use Rattle.kanren_run.specs.declared.writing.Stop.TheVariants.{Memory}
use Rattle.kanren_run.proofs.RunLaws.{taken-has}
use Rattle.kanren_run.proofs.WritingLaws.{nothing_put, err_puts, start_text}
use Rattle.kanren_run.proofs.writing.write_query.Goals as goal

pub returns-in_err-search-clause-puts : goal.returns-in_err-search-clause-puts
returns-in_err-search-clause-puts g c = err_puts _ _ _ Memory c.from_residual.result c.from_residual.ensures.1 (nothing_put _ _)

pub write_search-requires-clause-named : goal.write_search-requires-clause-named
write_search-requires-clause-named g c =
    let can = c.requires.can_run in
    subst (λ t. Each (HasNames c.args.names.now) t.stores) (sym c.in_ok-search.ensures.left)
    (taken-has c.args.names.now (programs.meaning c.args.program.now) c.args.settings.fuel (query_of c.args.program.now c.args.query.now) can.bodies (and_parts _ _ can.goals).0)

pub returns-in_err-ended-clause-puts : goal.returns-in_err-ended-clause-puts
returns-in_err-ended-clause-puts g c =
    err_puts _ _ _ c.in_err-ended.field-0.0 c.from_residual-in_err-ended.result c.from_residual-in_err-ended.ensures.1
    (subst (λ t. Stops t (g.K.Sink.view c.args.sink.now) (g.K.Sink.view c.write_search.new.sink) c.in_err-ended.field-0.0)
    (start_text c.args.names.now _ _ _ c.in_ok-search.ensures.pulls c.in_ok-search.ensures.left) c.in_err-ended.ensures.puts)

pub returns-clause-puts : goal.returns-clause-puts
returns-clause-puts g c =
    subst (λ t. Appends (g.K.Sink.view c.args.sink.now).put (g.K.Sink.view c.write_search.new.sink).put t × ((g.K.Sink.view c.write_search.new.sink).faults ≡ (g.K.Sink.view c.args.sink.now).faults))
    (start_text c.args.names.now _ _ _ c.in_ok-search.ensures.pulls c.in_ok-search.ensures.left) c.in_ok-ended.ensures.puts
