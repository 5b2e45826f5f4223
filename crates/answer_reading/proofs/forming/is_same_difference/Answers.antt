use Rattle.std.proofs.Common.{rules}
use Rattle.answer_reading.proofs.LoopLaws.{other_pairs}
use Rattle.answer_reading.proofs.forming.is_same_difference.Goals as goal

pub returns-then-one-other : goal.returns-then-one-other
returns-then-one-other c = other_pairs c.args.one.now c.args.other.now (search rules)
