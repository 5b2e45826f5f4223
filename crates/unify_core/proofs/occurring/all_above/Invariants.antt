use Rattle.std.proofs.Common.{drop}
use Rattle.unify_core.specs.LentBindings.{AllAbove}
use Rattle.unify_core.proofs.occurring.all_above.Given as goal

-- all are, if those that are left are
abbrev pub invariant-loop-one : goal.invariant-loop-one
invariant-loop-one l = AllAbove l.low (drop l.one-index l.lent) → AllAbove l.low l.lent
