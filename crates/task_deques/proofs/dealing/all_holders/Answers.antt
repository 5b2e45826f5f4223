use Rattle.std.proofs.Common.{◌≡◌, subst, arith}
use Rattle.task_deques.specs.InTurn.{AreGiven}
use Rattle.task_deques.proofs.DealLaws.{new_ready, new_parts, ready_whole}
use Rattle.task_deques.proofs.TurnLaws.{none_given, all_given}
use Rattle.task_deques.proofs.dealing.all_holders.Goals as goal

pub loop-own-init : goal.loop-own-init
loop-own-init g c =
    let n = c.args.home.now.numbers in
    let hs = c.in_ok-all.all.items in
    let none = new_parts n hs c.in_ok-all.ensures.alone in
    record {
      ready = new_ready n hs c.in_ok-all.ensures.alone;
      few = omega (arith, none);
      long = c.in_ok-all.ensures.length;
      turns = none_given n c.args.count hs c.in_ok-all.ensures.alone;
    }

pub returns-clause-whole : goal.returns-clause-whole
returns-clause-whole g c = ready_whole c.args.home.now.numbers c.loop-own.all.items c.loop-own.invariant.ready

pub returns-clause-turns : goal.returns-clause-turns
returns-clause-turns g c =
    let own = c.loop-own.own in
    let over = c.loop-own-test.false in
    let last = c.loop-own.auto.own-end in
    let all : own ≡ c.args.count = omega (arith, over, last) in
    all_given c.args.count c.loop-own.all.items c.loop-own.invariant.long (subst (λ n. AreGiven c.args.count n 0 c.loop-own.all.items) all c.loop-own.invariant.turns)
