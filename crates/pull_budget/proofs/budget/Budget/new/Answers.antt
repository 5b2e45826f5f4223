use Rattle.std.proofs.Common.{sym, subst, ap, ◌<◌, arith}
use Rattle.pull_budget.proofs.KeptSteps.{opens, bounds}
use Rattle.pull_budget.proofs.budget.Budget.new.Goals as goal

pub of_words-requires : goal.of_words-requires
of_words-requires c = opens

pub store-requires : goal.store-requires
store-requires c = let e = c.in-Ok.ensures in (e.2, subst (λ n. 3 < n) (sym e.0) (omega arith), bounds _ _ _ _ (ap (λ m. m.0.puller) e.4) (ap (λ m. m.0.ahead) e.4))
