use Rattle.std.proofs.Common.{◌∙◌, ap}
use Rattle.susp_cells.specs.Sketches.{program_in, tree_in, program-read, tree-read}
use Rattle.susp_cells.proofs.suspensions.Label.of.Goals as goal

pub returns-clause-program : goal.returns-clause-program
returns-clause-program g c = ap program_in c.of-drawn.ensures ∙ program-read _ _

pub returns-clause-tree : goal.returns-clause-tree
returns-clause-tree g c = ap tree_in c.of-drawn.ensures ∙ tree-read _ _
