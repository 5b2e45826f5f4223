use Rattle.std.proofs.Common.{◌∙◌, ◌≤◌, subst, sym}
use Rattle.kanren_run.proofs.WritingLaws.{written_on, stops_on, err_puts, run_ended, run_goes_on}
use Rattle.kanren_run.proofs.writing.write_search.Goals as goal

pub returns-in_err-ended-clause-puts : goal.returns-in_err-ended-clause-puts
returns-in_err-ended-clause-puts g c =
    err_puts _ _ _ c.in_err-ended.field-0.0 c.from_residual.result c.from_residual.ensures.1
    (stops_on _ _ c.in_err-ended.field-0.0 _ _ _ c.loop-ended.invariant.written c.in_err-ended.ensures.next)

pub returns-in-Some-clause-puts : goal.returns-in-Some-clause-puts
returns-in-Some-clause-puts g c = run_ended _ _ _ _ _ _ _ _ _ _ _ c.in_ok-ended.field-0 c.in-Some.ended c.in-Some.is c.loop-ended.invariant.written c.in_ok-ended.ensures.next

pub loop-ended-preserved : goal.loop-ended-preserved
loop-ended-preserved g c =
    let on = run_goes_on _ _ _ _ _ _ _ _ _ c.in_ok-ended.field-0 c.in_default.not-Some c.in_ok-ended.ensures.next in
    record {
      written = written_on _ _ _ _ _ _ c.loop-ended.invariant.written on.written;
      round = subst (λ r. 1 ≤ r) (sym c.in_ok-ended.ensures.round) c.loop-ended.invariant.round;
      named = on.named;
      ending = on.ending ∙ c.loop-ended.invariant.ending;
    }
