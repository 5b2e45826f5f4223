use Rattle.std.proofs.Common.{◌≡◌, ◌≤◌}
use Rattle.kan_tree.specs.Nodes.{look}
use Rattle.kan_tree.proofs.nodes.find.Given as goal

-- what is reached has at its level what the whole has
abbrev pub invariant-loop-reached : goal.invariant-loop-reached
invariant-loop-reached g l = (look g.T.Again.meaning l.left l.key l.reached ≡ look g.T.Again.meaning l.level l.key l.node) × (l.left ≤ l.level)

abbrev pub decreases-loop-reached : goal.decreases-loop-reached
decreases-loop-reached g l = l.left
