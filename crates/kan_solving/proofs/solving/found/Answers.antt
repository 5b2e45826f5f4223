use Rattle.std.proofs.Common.{◌∙◌, eq-eqb, ne_eqb, ap, map, drop_of_length-le}
use Rattle.kan_model.specs.Stores.Solve.{image}
use Rattle.kan_solving.specs.Solving.{replaced_by}
use Rattle.kan_solving.proofs.SolvingLaws.{image_here, image_further}
use Rattle.kan_solving.proofs.solving.found.Goals as goal

pub loop-replaced-preserved : goal.loop-replaced-preserved
loop-replaced-preserved c =
    c.loop-replaced.invariant ∙ image_further _ _ c.args.var c.replaced-item.result c.loop-replaced-test.true c.replaced-item.is (ne_eqb _ _ c.if-replaced-var.false)

pub returns-then-replaced-var : goal.returns-then-replaced-var
returns-then-replaced-var c =
    c.loop-replaced.invariant ∙ image_here _ _ c.args.var c.replaced-item.result c.loop-replaced-test.true c.replaced-item.is (eq-eqb _ _ c.if-replaced-var.true)

pub returns : goal.returns
returns c =
    c.loop-replaced.invariant ∙ ap (λ rs. image (map replaced_by rs) c.args.var) (drop_of_length-le _ c.loop-replaced-test.false)
