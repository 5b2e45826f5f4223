use Rattle.kan_tree.proofs.var_tree.+settled.Given as goal

abbrev pub decreases-settled : goal.decreases-settled
decreases-settled g l = l.waiting
