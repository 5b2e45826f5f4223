use Rattle.std.proofs.Common.{ap, option_map}
use Rattle.unify_core.specs.LentBindings.{waiting_equations, equations_ahead, with_next}
use Rattle.unify_core.proofs.Steps.UnifySteps.{turn_on, turn_off, turns_end}
use Rattle.unify_core.proofs.unifying.lend_bindings.Goals as goal

pub loop-next-preserved : goal.loop-next-preserved
loop-next-preserved g c =
    let (leads, no_cycle, less) =
    turn_on (g.B.Bindings.pairs c.args.bindings.now) (with_next c.args.first (waiting_equations c.args.waiting.items)) (equations_ahead c.loop-next.ahead) c.loop-next.next
    c.in-Some.sides c.loop-next.lent.items c.step.new.lent.items (option_map (λ next. with_next next (equations_ahead c.step.new.ahead)) c.in_ok-step.field-0)
    (with_next c.in-Some-2.after (equations_ahead c.step.new.ahead)) c.in-Some.is c.loop-next.invariant.leads c.loop-next.invariant.no_cycle c.in_ok-step.ensures
    (ap (option_map (λ next. with_next next (equations_ahead c.step.new.ahead))) c.in-Some-2.is) in
    record { leads = leads; no_cycle = no_cycle }

pub loop-next-smaller : goal.loop-next-smaller
loop-next-smaller g c =
    (turn_on (g.B.Bindings.pairs c.args.bindings.now) (with_next c.args.first (waiting_equations c.args.waiting.items)) (equations_ahead c.loop-next.ahead) c.loop-next.next
    c.in-Some.sides c.loop-next.lent.items c.step.new.lent.items (option_map (λ next. with_next next (equations_ahead c.step.new.ahead)) c.in_ok-step.field-0)
    (with_next c.in-Some-2.after (equations_ahead c.step.new.ahead)) c.in-Some.is c.loop-next.invariant.leads c.loop-next.invariant.no_cycle c.in_ok-step.ensures
    (ap (option_map (λ next. with_next next (equations_ahead c.step.new.ahead))) c.in-Some-2.is)).2

pub returns-in-None : goal.returns-in-None
returns-in-None g c =
    turn_off (g.B.Bindings.pairs c.args.bindings.now) (with_next c.args.first (waiting_equations c.args.waiting.items)) (equations_ahead c.loop-next.ahead) c.loop-next.next
    c.in-Some.sides c.loop-next.lent.items c.step.new.lent.items (option_map (λ next. with_next next (equations_ahead c.step.new.ahead)) c.in_ok-step.field-0)
    c.in-Some.is c.loop-next.invariant.leads c.in_ok-step.ensures (ap (option_map (λ next. with_next next (equations_ahead c.step.new.ahead))) c.in-None.is)

pub returns : goal.returns
returns g c =
    turns_end (g.B.Bindings.pairs c.args.bindings.now) (with_next c.args.first (waiting_equations c.args.waiting.items)) (equations_ahead c.loop-next.ahead) c.loop-next.next
    c.loop-next.lent.items c.in_default.is c.loop-next.invariant.leads
