use Rattle.std.proofs.Common.{arith}
use Rattle.goal_forms.proofs.ScopeLaws.{slot_found, slot_passed}
use Rattle.goal_forms.proofs.scope.slot_of.Goals as goal

pub returns-then-is_named : goal.returns-then-is_named
returns-then-is_named c =
    slot_found c.args.scope.now c.loop-end.end c.args.symbol _ c.loop-end-test.true c.loop-end.invariant.within c.if-is_named.ensures c.loop-end.invariant.none

pub loop-end-preserved : goal.loop-end-preserved
loop-end-preserved c = record {
  within = omega arith;
  none = slot_passed c.args.scope.now c.loop-end.end c.args.symbol _ c.loop-end-test.true c.loop-end.invariant.within c.if-is_named.ensures c.loop-end.invariant.none;
}
