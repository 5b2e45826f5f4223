use Rattle.std.proofs.Common.{rules}
use Rattle.reify.proofs.ChooseLaws.{other_lengths}
use Rattle.reify.proofs.choosing.is_same_form.Goals as goal

pub returns-then-one-other : goal.returns-then-one-other
returns-then-one-other c = other_lengths c.args.one.now c.args.other.now (search rules)
