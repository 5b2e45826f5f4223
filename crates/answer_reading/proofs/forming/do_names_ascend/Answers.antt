-- The last item has none behind it.
use Rattle.std.specs.Prelude.{nat_lt}
use Rattle.answer_reading.proofs.LoopLaws.{ascends_end}
use Rattle.answer_reading.proofs.forming.do_names_ascend.Goals as goal

pub returns : goal.returns
returns c = ascends_end nat_lt c.args.names.now c.loop-at.at c.loop-at-test.false c.loop-at.invariant
