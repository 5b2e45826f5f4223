use denote.Param.Send.{sendable}
use Rattle.kan_plain.proofs.Crossing.{plain_send, plain_sync}
use Rattle.susp_cells_tests.proofs.races.one_race.Goals as goal

pub raced-requires-send-St : goal.raced-requires-send-St
raced-requires-send-St g c κs within = search (sendable, plain_send) depth 40

pub raced-requires-sync-St : goal.raced-requires-sync-St
raced-requires-sync-St g c κs within = search (sendable, plain_sync) depth 40
