use Rattle.std.proofs.Common.{◌≡◌, [], length}
use Rattle.kan_model.specs.Terms.Letters.{built_from, stack_terms}
use Rattle.kan_model.proofs.letters.build.Given as goal

-- the letters that are left, in front of the terms on the stack, build what all letters build
abbrev pub invariant-loop-letter : goal.invariant-loop-letter
invariant-loop-letter l = built_from l.letters.items (stack_terms l.stack.items) ≡ built_from l.fn.letters.items []

abbrev pub decreases-loop-letter : goal.decreases-loop-letter
decreases-loop-letter l = length l.letters.items
