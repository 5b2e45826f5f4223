-- Each shape changes how many terms are wanted.
use Rattle.reify.specs.declared.shaping.Shape.TheVariants.{Nil}
use Rattle.answer_reading.proofs.LoopLaws.{whole_next, whole_none}
use Rattle.answer_reading.proofs.forming.is_whole.Goals as goal

pub returns-then-wanted-eq0 : goal.returns-then-wanted-eq0
returns-then-wanted-eq0 c = whole_none c.args.shapes.now c.loop-shape.shape-index c.loop-shape.wanted Nil c.loop-shape-test.true c.if-wanted-eq0.true c.loop-shape.invariant.1

pub loop-shape-preserved : goal.loop-shape-preserved
loop-shape-preserved c = whole_next c.args.shapes.now c.loop-shape.shape-index c.loop-shape.wanted c.wanted_after-wanted.result _ c.loop-shape-test.true c.if-wanted-eq0.false c.wanted_after-wanted.ensures c.loop-shape.invariant
