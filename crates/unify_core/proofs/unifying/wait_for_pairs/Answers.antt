use Rattle.std.proofs.Common.{arith, refl}
use Rattle.unify_core.proofs.Steps.UnifySteps.{pair_waits}
use Rattle.unify_core.proofs.unifying.wait_for_pairs.Goals as goal

pub loop-left-preserved : goal.loop-left-preserved
loop-left-preserved c = record {
  within = omega (arith, c.loop-left.invariant.within);
  wait = pair_waits c.args.pairs.now c.loop-left.left c.index-pairs-left.result c.loop-left.waiting.items c.push.new.self.items _
      c.loop-left-test.true c.loop-left.invariant.within c.index-pairs-left.is c.in_ok-push.ensures.items refl c.loop-left.invariant.wait;
}
