use Rattle.std.proofs.Common.{arith}
use Rattle.kan_terms.specs.Terms.{tree}
use Rattle.kan_model.specs.Programs.Environments.{terms_of}
use Rattle.kan_model.specs.Programs.Closed as programs
use Rattle.stream_core.proofs.HeadLaws.{env-more}
use Rattle.stream_core.proofs.ArgumentLaws.{instance-below, names-step}
use Rattle.stream_core.proofs.call_goals.name_all.Goals as goal

pub name_one-requires-clause-below : goal.name_one-requires-clause-below
name_one-requires-clause-below g c =
    let after = g.St.Store.meaning c.loop-term.after in
    rw c.in_ok-value.ensures (instance-below after.counter (terms_of c.args.env.now) (programs.template c.args.program.now _)
    (env-more (g.St.Store.meaning c.args.store).counter after.counter c.loop-term.invariant.above (terms_of c.args.env.now) c.requires.below))

pub name_one-requires-clause-room : goal.name_one-requires-clause-room
name_one-requires-clause-room g c =
    let low = c.loop-term-test.true in
    let within = c.loop-term.invariant.within in
    let room = c.requires.room in
    omega (arith, low, within, room)

pub loop-term-preserved : goal.loop-term-preserved
loop-term-preserved g c =
    let p = c.args.program.now in
    let one = c.in_ok-value-2.ensures in
    let inv = c.loop-term.invariant in
    record {
      names = names-step _ _ _ (terms_of c.args.env.now) (programs.templates p) c.args.arguments.now c.loop-term.term-index _ c.loop-term.values.items _
          (tree c.in_ok-value.value) _ c.loop-term-test.true inv.names c.in_ok-value.ensures one c.in_ok-push.ensures.items;
      above = let a = one.above in let b = inv.above in omega (arith, a, b);
      within = let a = one.within in let b = inv.within in omega (arith, a, b);
    }
