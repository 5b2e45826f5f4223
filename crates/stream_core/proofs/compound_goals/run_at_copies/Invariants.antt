use Rattle.std.proofs.Common.{◌≡◌, ℕ, length, reverse, map}
use Rattle.kan_model.specs.Programs.Goals.{Goal}
use Rattle.kan_model.specs.Programs.Environments.{terms_of}
use Rattle.stream_core.specs.Tasks as pending
use Rattle.stream_core.specs.CodeTasks.{task, stack}
use Rattle.stream_core.proofs.compound_goals.run_at_copies.Given as goal

-- with a goal at each store that is left, the tasks are those with a goal at each store
abbrev pub invariant-loop-store : goal.invariant-loop-store
invariant-loop-store g l = (at : ℕ → Goal) →
    pending.run_each (at l.goal) (terms_of l.env) (map g.St.Store.meaning (reverse l.waiting.items)) (stack (task g.St.Store.meaning at) l.tasks.items)
    ≡ pending.run_each (at l.goal) (terms_of l.env) (map g.St.Store.meaning l.fn.heads) (stack (task g.St.Store.meaning at) l.fn.tasks.items)

abbrev pub decreases-loop-store : goal.decreases-loop-store
decreases-loop-store g l = length l.waiting.items
