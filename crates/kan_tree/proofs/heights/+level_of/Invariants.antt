use Rattle.std.proofs.Common.{◌-◌}
use Rattle.kan_tree.proofs.heights.+level_of.Given as goal

abbrev pub decreases-level_of : goal.decreases-level_of
decreases-level_of l = 16 - l.level
