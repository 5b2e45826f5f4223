-- What may go to another thread.
use denote.RattleType.{RattleType}
use denote.Param.Send.{IsSend, IsSync, sendable}
use Rattle.std.proofs.Crossing.{crosses}
use Rattle.kan_model.specs.declared.stores.Store.{Ghosts}
use Rattle.susp_cells.proofs.Crossing.{susp_send, forced_send}
use Rattle.susp_cells_tests.specs.contracts.racing.Offer as Offer

pub offer_send : (St : RattleType) (g : Ghosts St.Denot) → IsSend St → IsSync St → IsSend (Offer.the_row St g)
offer_send St g s y = search (sendable, crosses, susp_send, forced_send) depth 40
