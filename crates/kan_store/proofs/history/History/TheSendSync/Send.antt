use denote.Param.Send.{IsSend}
use Rattle.kan_store.proofs.Sent.{history_send}
use Rattle.kan_store.specs.contracts.history.History.{the_row}

pub send : IsSend the_row
send = history_send
