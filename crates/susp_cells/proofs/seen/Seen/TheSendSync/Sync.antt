use denote.RattleType.{RattleType}
use denote.Param.Send.{IsSync}
use Rattle.susp_cells.proofs.SeenSent as sent
use Rattle.susp_cells.specs.contracts.seen.Seen.{the_row}

pub sync : (T : RattleType) → IsSync (the_row T)
sync = sent.seen_sync
