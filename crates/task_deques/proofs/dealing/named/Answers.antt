use Rattle.task_deques.proofs.KeptLaws.{names_new}
use Rattle.task_deques.proofs.dealing.named.Goals as goal

pub another-requires : goal.another-requires
another-requires g c = names_new _ _ _ _ c.requires.new
