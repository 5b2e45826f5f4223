use Rattle.std.proofs.Common.{arith, sym}
use Rattle.goal_syntax.proofs.Accepted.InScopeLaws.{slot_there}
use Rattle.goal_syntax.proofs.build_term.slot_number.Goals as goal

pub overflow_cast-result : goal.overflow_cast-result
overflow_cast-result c = omega (arith, slot_there c.args.scope.now c.args.symbol _ (sym c.in-Some.ensures), c.requires)
