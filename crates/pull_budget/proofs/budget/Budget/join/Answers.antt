use Rattle.std.proofs.Common.{sym, subst, ◌<◌, arith}
use Rattle.pull_budget.proofs.KeptSteps.{joins}
use Rattle.pull_budget.proofs.budget.Budget.join.Goals as goal

pub join_seat-requires : goal.join_seat-requires
join_seat-requires c = (c.requires.seat.0, c.requires.other.0, c.args.other.bare, subst (λ n. 0 < n) (sym c.args.self.now.four) (omega arith), joins _ _ _ _ c.requires.hired)
