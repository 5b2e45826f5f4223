use Rattle.std.proofs.Common.{◌-◌}
use Rattle.kan_tree.proofs.heights.+raise.Given as goal

abbrev pub decreases-raise : goal.decreases-raise
decreases-raise g l = 16 - l.level
