use denote.Param.Send.{sendable}
use Rattle.susp_cells.proofs.Crossing.{table_sync}
use Rattle.susp_cells_tests.proofs.Crossing.{offer_send}
use Rattle.susp_cells_tests.proofs.racing.race.Goals as goal

pub in_two-first-requires-send-H : goal.in_two-first-requires-send-H
in_two-first-requires-send-H g c κs within = search (sendable, offer_send) depth 40

pub in_two-first-requires-sync-T : goal.in_two-first-requires-sync-T
in_two-first-requires-sync-T g c κs within = search (sendable, table_sync) depth 40
