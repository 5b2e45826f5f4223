use Rattle.std.proofs.Common.{◌∙◌, ap, arith}
use Rattle.kan_terms.specs.Bound.{bound_to}
use Rattle.unify_core.proofs.Steps.LentBindingLaws.{up_to-all, lent_here, lent_further}
use Rattle.unify_core.proofs.walking.find.Goals as goal

pub loop-left-init : goal.loop-left-init
loop-left-init g c = record { within = omega arith; same = ap (bound_to c.args.var) (up_to-all c.args.lent.now (g.B.Bindings.pairs c.args.bindings.now)) }

pub loop-left-preserved : goal.loop-left-preserved
loop-left-preserved g c = record {
  within = omega arith;
  same =
      lent_further c.args.lent.now c.loop-left.left c.args.var c.index-lent-left.result (g.B.Bindings.pairs c.args.bindings.now)
      c.loop-left-test.true c.loop-left.invariant.within c.index-lent-left.is c.if-last-var.false
      ∙ c.loop-left.invariant.same;
}

pub returns-then-last-var : goal.returns-then-last-var
returns-then-last-var g c =
    lent_here c.args.lent.now c.loop-left.left c.args.var c.index-lent-left.result (g.B.Bindings.pairs c.args.bindings.now)
    c.loop-left-test.true c.loop-left.invariant.within c.index-lent-left.is c.if-last-var.true
    ∙ c.loop-left.invariant.same
