use Rattle.std.proofs.Common.{rules}
use Rattle.answer_reading.proofs.LoopLaws.{other_shapes}
use Rattle.answer_reading.proofs.forming.are_same_shapes.Goals as goal

pub returns-then-one-other : goal.returns-then-one-other
returns-then-one-other c = other_shapes c.args.one.now c.args.other.now (search rules)
