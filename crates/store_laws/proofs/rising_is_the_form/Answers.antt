-- The law of General.
use Rattle.store_laws.proofs.GeneralUnifiers.{general_is_the_form}
use Rattle.store_laws.proofs.rising_is_the_form.Goals as goal

pub returns : goal.returns
returns c = general_is_the_form
