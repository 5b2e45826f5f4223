use Rattle.std.proofs.Common.{◌≡◌, ◌↔◌, length}
use Rattle.kan_model.proofs.letters.same_letters.Given as goal

-- all letters are the same where those that are left are
abbrev pub invariant-loop-letter : goal.invariant-loop-letter
invariant-loop-letter l = (l.fn.left.items ≡ l.fn.right.items) ↔ (l.left.items ≡ l.right.items)

abbrev pub decreases-loop-letter : goal.decreases-loop-letter
decreases-loop-letter l = length l.left.items
