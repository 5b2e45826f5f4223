use denote.RattleType.{RattleType}
use denote.Param.Send.{IsSend}
use Rattle.susp_cells.proofs.SeenSent as sent
use Rattle.susp_cells.specs.contracts.seen.Seen.{the_row}

pub send : (T : RattleType) → IsSend (the_row T)
send = sent.seen_send
