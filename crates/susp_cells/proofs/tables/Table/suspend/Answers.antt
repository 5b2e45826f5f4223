use Rattle.std.proofs.Common.{◌∙◌, sym, ap}
use Rattle.susp_cells.specs.Sketches.{program_in, program-read}
use Rattle.susp_cells.proofs.tables.Table.suspend.Goals as goal

pub push_shown-requires-2 : goal.push_shown-requires-2
push_shown-requires-2 g c i = c.of-label.ensures.program ∙ sym (ap program_in c.args.self.now.drawn ∙ program-read _ _)
