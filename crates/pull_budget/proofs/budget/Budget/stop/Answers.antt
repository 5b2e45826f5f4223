use Rattle.std.proofs.Common.{sym, subst, ◌<◌, arith}
use Rattle.pull_budget.proofs.KeptSteps.{stops}
use Rattle.pull_budget.proofs.budget.Budget.stop.Goals as goal

pub store-requires : goal.store-requires
store-requires c = (c.requires.seat.0, subst (λ n. 2 < n) (sym c.args.self.now.four) (omega arith), stops _ _ _ c.requires.puller)
