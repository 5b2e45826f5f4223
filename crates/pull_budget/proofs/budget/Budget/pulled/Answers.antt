use Rattle.std.proofs.Common.{sym, subst, ◌<◌, arith}
use Rattle.pull_budget.proofs.KeptSteps.{pulls}
use Rattle.pull_budget.proofs.budget.Budget.pulled.Goals as goal

pub fetch_add-requires : goal.fetch_add-requires
fetch_add-requires c = (c.requires.seat.0, subst (λ n. 0 < n) (sym c.args.self.now.four) (omega arith), pulls _ _ _ c.requires.puller c.requires.few)
