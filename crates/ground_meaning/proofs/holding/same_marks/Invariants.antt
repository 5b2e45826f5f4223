use Rattle.std.proofs.Common.{◌≡◌, ◌↔◌, length}
use Rattle.ground_meaning.proofs.holding.same_marks.Given as goal

-- all marks are the same where those that are left are
abbrev pub invariant-loop-mark : goal.invariant-loop-mark
invariant-loop-mark l = (l.fn.left.items ≡ l.fn.right.items) ↔ (l.left.items ≡ l.right.items)

abbrev pub decreases-loop-mark : goal.decreases-loop-mark
decreases-loop-mark l = length l.left.items
