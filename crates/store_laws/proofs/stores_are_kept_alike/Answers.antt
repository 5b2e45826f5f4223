-- The law of General.
use Rattle.store_laws.proofs.GeneralUnifiers.{kept_under_general}
use Rattle.store_laws.proofs.stores_are_kept_alike.Goals as goal

pub returns : goal.returns
returns c = kept_under_general
