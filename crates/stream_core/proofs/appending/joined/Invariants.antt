use Rattle.std.proofs.Common.{◌≡◌, ◌++◌, length, reverse}
use Rattle.stream_core.proofs.appending.joined.Given as goal

abbrev pub invariant-loop-store : goal.invariant-loop-store
invariant-loop-store g l = l.left ++ reverse l.waiting.items ≡ l.fn.left ++ l.fn.right

abbrev pub decreases-loop-store : goal.decreases-loop-store
decreases-loop-store g l = length l.waiting.items
