use Rattle.std.proofs.Common.{sym, subst, ◌<◌, arith}
use Rattle.pull_budget.proofs.KeptSteps.{splits}
use Rattle.pull_budget.proofs.budget.Budget.split.Goals as goal

pub split_seat-requires : goal.split_seat-requires
split_seat-requires c = (c.requires.seat.0, subst (λ n. 0 < n) (sym c.args.self.now.four) (omega arith), splits _ _)
