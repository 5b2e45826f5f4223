use denote.Param.Send.{IsSync}
use Rattle.kan_store.proofs.Sent.{history_sync}
use Rattle.kan_store.specs.contracts.history.History.{the_row}

pub sync : IsSync the_row
sync = history_sync
