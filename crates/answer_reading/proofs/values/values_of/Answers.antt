use Rattle.std.proofs.Common.{sym, subst, arith}
use Rattle.reify.specs.declared.shaping.Shape.TheVariants.{Nil}
use Rattle.answer_reading.specs.Finding.{FindsSo}
use Rattle.answer_reading.specs.Marks.{lent_lists}
use Rattle.answer_reading.proofs.FindLaws.{finds_start, finds_next, finds_none, finds_all, none_left, cut_all}
use Rattle.answer_reading.proofs.values.values_of.Goals as goal

pub loop-shape-init : goal.loop-shape-init
loop-shape-init c =
    (omega arith, subst (λ l. FindsSo c.args.shapes.now c.args.marks.now (lent_lists l) c.args.shapes.now c.args.marks.now) (sym c.new-values.ensures.items) (finds_start c.args.shapes.now c.args.marks.now c.requires.whole c.requires.rising))

pub returns-then-at-marks : goal.returns-then-at-marks
returns-then-at-marks c = finds_none c.args.shapes.now c.args.marks.now _ c.loop-shape.shape-index Nil _ c.loop-shape-test.true (none_left c.args.marks.now c.loop-shape.at c.if-at-marks.true) c.loop-shape.invariant.1

pub loop-shape-preserved : goal.loop-shape-preserved
loop-shape-preserved c = finds_next c.args.shapes.now c.args.marks.now _ _ c.loop-shape.shape-index c.loop-shape.at _ _ _ c.loop-shape-test.true c.if-at-marks.false (cut_all c.loop-shape.at c.args.marks.now c.if-at-marks.false) c.loop-shape.invariant c.in_ok-at.ensures.values c.in_ok-at.ensures.count c.in_ok-at.ensures.within

pub returns : goal.returns
returns c = finds_all c.args.shapes.now c.args.marks.now _ c.loop-shape.shape-index _ c.loop-shape-test.false c.loop-shape.invariant.1
