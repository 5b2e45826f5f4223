use Rattle.std.proofs.Common.{◌≡◌, ◌++◌, length, reverse}
use Rattle.stream_core.proofs.appending.reversed.Given as goal

abbrev pub invariant-loop-store : goal.invariant-loop-store
invariant-loop-store g l = l.turned.items ++ reverse l.stores ≡ reverse l.fn.stores

abbrev pub decreases-loop-store : goal.decreases-loop-store
decreases-loop-store g l = length l.stores
