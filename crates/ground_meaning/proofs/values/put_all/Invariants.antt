use Rattle.std.proofs.Common.{◌≡◌, ◌++◌, take}
use Rattle.ground_meaning.proofs.values.put_all.Given as goal

-- so many copies stand behind what was there
abbrev pub invariant-loop-term : goal.invariant-loop-term
invariant-loop-term l = l.into ≡ l.fn.into ++ take l.term-index l.more
