use Rattle.kan_tree.proofs.LookLaws.{leaf_same, inner_same}
use Rattle.kan_tree.proofs.nodes.again.Goals as goal

pub returns-in_ok-again-in-Leaf : goal.returns-in_ok-again-in-Leaf
returns-in_ok-again-in-Leaf g c = rw c.in-Leaf.is (leaf_same g.T.Again.meaning c.in-Leaf.slots c.in_ok-again-in-Leaf.field-0 c.in_ok-again-in-Leaf.ensures)

pub returns-in_ok-again-in-Inner : goal.returns-in_ok-again-in-Inner
returns-in_ok-again-in-Inner g c = rw c.in-Inner.is (inner_same g.T.Again.meaning c.in-Inner.slots c.in_ok-again-in-Inner.field-0 c.in_ok-again-in-Inner.ensures)
