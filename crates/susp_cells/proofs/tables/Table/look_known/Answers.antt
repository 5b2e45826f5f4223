use Rattle.susp_cells.proofs.KnownLaws.{value-is}
use Rattle.susp_cells.proofs.tables.Table.look_known.Goals as goal

pub returns-clause-force : goal.returns-clause-force
returns-clause-force g c = value-is c.args.self.now c.args.known.now c.value-2.result.now c.args.self.now.small c.requires c.value-2.ensures
