use Rattle.std.proofs.Common.{sym, subst, ◌<◌, arith}
use Rattle.pull_budget.proofs.KeptSteps.{sees}
use Rattle.pull_budget.proofs.budget.Budget.load_pulls.Goals as goal

pub load-requires : goal.load-requires
load-requires c = (c.requires.seat.0, subst (λ n. 0 < n) (sym c.args.self.now.four) (omega arith), sees _ _ _)
