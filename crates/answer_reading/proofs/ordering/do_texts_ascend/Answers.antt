-- The last disequality has none behind it.
use Rattle.answer_reading.specs.Forming.{text_le}
use Rattle.answer_reading.proofs.LoopLaws.{ascends_end}
use Rattle.answer_reading.proofs.ordering.do_texts_ascend.Goals as goal

pub returns : goal.returns
returns c = ascends_end (text_le c.args.names.now) c.args.disequalities.now c.loop-at.at c.loop-at-test.false c.loop-at.invariant
