use Rattle.std.proofs.Common.{rules, ◌≡◌, ◌-◌, length, ap, ◌∙◌, subst, arith}
use Rattle.task_deques.specs.Turns.{after}
use Rattle.task_deques.specs.InTurn.{AreGiven}
use Rattle.task_deques.proofs.TurnLaws.{step_given, next_given}
use Rattle.task_deques.proofs.dealing.fill.Goals as goal

pub loop-step-preserved : goal.loop-step-preserved
loop-step-preserved g c =
    let count = length c.args.holders.now.items in
    let own = c.args.own in
    let step = c.loop-step.step in
    let stealer = c.in_ok-stealer.stealer in
    let long : c.len-count.result ≡ count = search rules in
    let is : stealer.victim ≡ after count own step = c.in_ok-stealer.ensures.victim ∙ c.number_after-number.ensures.after ∙ ap (λ n. after n own step) long in
    let before = c.loop-step.invariant in
    let few = before.few in
    let cut = c.in_ok-stealer.ensures.parts in
    let one = c.in_ok-stealer.ensures.part in
    let given = c.in_ok-give.ensures.parts in
    record {
      ready = c.in_ok-give.ensures.ready;
      few = omega (arith, few, cut, one, given);
      long = c.in_ok-give.ensures.length ∙ c.in_ok-stealer.ensures.length ∙ before.long;
      turns = step_given count own step stealer.victim c.cut.new.holders.items c.give.new.holders.items (λ n. c.in_ok-give.ensures.turns count n) c.loop-step.auto.step is (c.in_ok-stealer.ensures.turns count own (step - 1) before.turns);
    }

pub returns-clause-turns : goal.returns-clause-turns
returns-clause-turns g c =
    let count = length c.args.holders.now.items in
    let within = c.requires.within.0 in
    let long = c.len-count.ensures in
    let over = c.loop-step-test.false in
    let first = c.loop-step.auto.step in
    let last = c.loop-step.auto.step-end in
    let all : c.loop-step.step - 1 ≡ count - 1 = omega (arith, within, long, over, first, last) in
    next_given count c.args.own c.loop-step.holders.items (subst (λ n. AreGiven count c.args.own n c.loop-step.holders.items) all c.loop-step.invariant.turns)
