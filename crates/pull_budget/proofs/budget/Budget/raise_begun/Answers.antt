use Rattle.std.proofs.Common.{sym, subst, ◌<◌, arith}
use Rattle.pull_budget.proofs.KeptSteps.{raises}
use Rattle.pull_budget.proofs.budget.Budget.raise_begun.Goals as goal

pub compare_exchange-requires : goal.compare_exchange-requires
compare_exchange-requires c = (c.requires.seat.0, subst (λ n. 1 < n) (sym c.args.self.now.four) (omega arith), raises _ _ _ _ c.requires.read c.requires.room)
