use Rattle.std.proofs.Common.{◌+◌, ◌*◌}
use Rattle.kan_tree.proofs.nodes.+put.Given as goal

abbrev pub decreases-put_arc : goal.decreases-put_arc
decreases-put_arc g l = 3 * l.level + 2

abbrev pub decreases-put_below : goal.decreases-put_below
decreases-put_below g l = 3 * l.level

abbrev pub decreases-put_node : goal.decreases-put_node
decreases-put_node g l = 3 * l.level + 1
