-- Whom a task was taken from.
use Rattle.std.specs.Prelude.{ℕ, ◌<◌}
use Rattle.task_deques.specs.Shares.{WasEmpty}
use Rattle.task_deques.specs.Holders.{Holder, deque_of, deque_share, others_of, FoundEmpty}

module _ {T : Type 0} where
  -- the holder's own deque was empty at one moment
  abbrev pub OwnWasEmpty : Holder T → Type 0
  OwnWasEmpty h = WasEmpty (deque_share (deque_of h))

  -- the deques of the first so many of the others were, each at one moment
  abbrev pub FirstWereEmpty : ℕ → Holder T → Type 0
  FirstWereEmpty count h = (k : ℕ) → k < count → FoundEmpty (others_of h) k
