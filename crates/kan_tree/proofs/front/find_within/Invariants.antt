use Rattle.std.proofs.Common.{◌≡◌}
use Rattle.kan_tree.specs.UnderKeys.{within}
use Rattle.kan_tree.proofs.front.find_within.Given as goal

-- what is reached has with the links that are left what the whole has
abbrev pub invariant-loop-reached : goal.invariant-loop-reached
invariant-loop-reached g l = within g.T.Again.meaning l.left l.level l.reached l.key ≡ within g.T.Again.meaning l.waiting l.level l.front l.key

abbrev pub decreases-loop-reached : goal.decreases-loop-reached
decreases-loop-reached g l = l.left
