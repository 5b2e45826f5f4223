use Rattle.kan_tree.proofs.nodes.+fresh.Given as goal

abbrev pub decreases-fresh : goal.decreases-fresh
decreases-fresh g l = l.level
