-- The law of General.
use Rattle.store_laws.proofs.GeneralUnifiers.{general_for_others}
use Rattle.store_laws.proofs.others_are_general.Goals as goal

pub returns : goal.returns
returns c = general_for_others
