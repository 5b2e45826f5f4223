use Rattle.std.proofs.Common.{subst, ◌∙◌, ◌+◌, ◌≤◌, arith}
use Rattle.pull_budget.proofs.KeptSteps.{puller_ended}
use Rattle.pull_budget.proofs.budget.Budget.end.Goals as goal

pub free-requires : goal.free-requires
free-requires c = λ k lt. let none = c.close_with-closed.ensures.counts.1 ∙ c.args.self.bare in absurd (omega (arith, none, lt))

pub returns-clause-bound : goal.returns-clause-bound
returns-clause-bound c =
    let e = puller_ended _ _ _ _ _ _ c.close_with-closed.ensures.values.2 c.requires.puller c.word-pulls.ensures c.word-begun.ensures in
    subst (λ ahead. c.word-begun.result ≤ c.word-pulls.result + ahead) c.requires.seat.1 e.bound

pub returns-clause-pulls : goal.returns-clause-pulls
returns-clause-pulls c = (puller_ended _ _ _ _ _ _ c.close_with-closed.ensures.values.2 c.requires.puller c.word-pulls.ensures c.word-begun.ensures).pulls

pub returns-clause-seen : goal.returns-clause-seen
returns-clause-seen c = (puller_ended _ _ _ _ _ _ c.close_with-closed.ensures.values.2 c.requires.puller c.word-pulls.ensures c.word-begun.ensures).seen

pub returns-clause-read : goal.returns-clause-read
returns-clause-read c = (puller_ended _ _ _ _ _ _ c.close_with-closed.ensures.values.2 c.requires.puller c.word-pulls.ensures c.word-begun.ensures).read
