use Rattle.kan_plain.proofs.PlainLaws.{stacked-reverse}
use Rattle.kan_plain.proofs.plain.stack_equations.Goals as goal

pub returns : goal.returns
returns c = stacked-reverse _ _ _ c.in_ok-pending.ensures c.reverse.ensures.items
