use Rattle.task_deques.proofs.KeptLaws.{puts}
use Rattle.task_deques.proofs.holders.TaskDeque.push.Goals as goal

pub push_as-requires-clause-pushes : goal.push_as-requires-clause-pushes
push_as-requires-clause-pushes g c = puts _ _ _ _ c.args.self.now.part (c.requires.home, tt)
