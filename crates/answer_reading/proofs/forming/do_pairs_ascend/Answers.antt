-- The last item has none behind it.
use Rattle.answer_reading.specs.Forming.{pair_before}
use Rattle.answer_reading.proofs.LoopLaws.{ascends_end}
use Rattle.answer_reading.proofs.forming.do_pairs_ascend.Goals as goal

pub returns : goal.returns
returns c = ascends_end pair_before c.args.pairs.now c.loop-at.at c.loop-at-test.false c.loop-at.invariant
