use Rattle.task_deques.proofs.KeptLaws.{forks}
use Rattle.task_deques.proofs.holders.TaskDeque.stealer.Goals as goal

pub another-pass-requires : goal.another-pass-requires
another-pass-requires g c = forks _ _ _ c.requires.parts
