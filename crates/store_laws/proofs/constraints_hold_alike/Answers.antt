-- The law of General.
use Rattle.store_laws.proofs.GeneralUnifiers.{hold_under_all}
use Rattle.store_laws.proofs.constraints_hold_alike.Goals as goal

pub returns : goal.returns
returns c = hold_under_all
