-- The law of General.
use Rattle.store_laws.proofs.GeneralUnifiers.{composed_is_general}
use Rattle.store_laws.proofs.pieces_are_general.Goals as goal

pub returns : goal.returns
returns c = composed_is_general
