use denote.Param.Send.{sendable}
use Rattle.kan_plain.proofs.Crossing.{plain_send, plain_sync}
use Rattle.worker_tests.proofs.workers.one_worker.Goals as goal

pub worked-requires-send-St : goal.worked-requires-send-St
worked-requires-send-St g c κs within = search (sendable, plain_send) depth 40

pub worked-requires-sync-St : goal.worked-requires-sync-St
worked-requires-sync-St g c κs within = search (sendable, plain_sync) depth 40
