use Rattle.std.proofs.Common.{sym, subst, ◌<◌, arith}
use Rattle.pull_budget.proofs.KeptSteps.{asks}
use Rattle.pull_budget.proofs.budget.Budget.stopped.Goals as goal

pub load-requires : goal.load-requires
load-requires c = (c.requires.seat.0, subst (λ n. 2 < n) (sym c.args.self.now.four) (omega arith), asks _ _ _)
