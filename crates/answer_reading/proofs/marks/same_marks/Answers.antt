use Rattle.std.proofs.Common.{rules}
use Rattle.answer_reading.proofs.MarkLaws.{other_lengths}
use Rattle.answer_reading.proofs.marks.same_marks.Goals as goal

pub returns-then-one-other : goal.returns-then-one-other
returns-then-one-other c = other_lengths c.args.one.now c.args.other.now (search rules)
