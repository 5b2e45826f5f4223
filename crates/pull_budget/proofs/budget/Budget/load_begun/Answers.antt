use Rattle.std.proofs.Common.{sym, subst, ◌<◌, arith}
use Rattle.pull_budget.proofs.KeptSteps.{reads}
use Rattle.pull_budget.proofs.budget.Budget.load_begun.Goals as goal

pub load-requires : goal.load-requires
load-requires c = (c.requires.seat.0, subst (λ n. 1 < n) (sym c.args.self.now.four) (omega arith), reads _ _ _)
