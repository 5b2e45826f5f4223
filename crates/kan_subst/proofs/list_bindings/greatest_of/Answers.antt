use Rattle.std.proofs.Common.{◌∙◌, ap, arith, Some}
use Rattle.kan_terms.specs.Greatest.{greater}
use Rattle.kan_subst.proofs.GreatestLaws.{greatest_step}
use Rattle.kan_subst.proofs.list_bindings.greatest_of.Goals as goal

pub loop-left-preserved : goal.loop-left-preserved
loop-left-preserved c = (
  omega (arith, c.loop-left.invariant.0),
  c.greater_of-greatest.ensures
      ∙ ap (λ own. greater own c.loop-left.greatest) (c.greater_of-own.ensures ∙ ap (greater (Some c.index-stored-left.result.var)) c.greatest_variable.ensures)
      ∙ greatest_step c.args.stored.now c.loop-left.left c.index-stored-left.result _ c.loop-left-test.true c.loop-left.invariant.0 c.index-stored-left.is c.loop-left.invariant.1,
)
