use Rattle.answer_reading.proofs.MarkLaws.{next_wanted}
use Rattle.answer_reading.proofs.marks.first_length.Goals as goal

pub loop-wanted-preserved : goal.loop-wanted-preserved
loop-wanted-preserved c = next_wanted c.args.marks.now c.loop-wanted.at c.loop-wanted.wanted c.wanted_after-wanted.result _ c.if-at-marks.true c.loop-wanted-test.true c.wanted_after-wanted.ensures c.loop-wanted.invariant
