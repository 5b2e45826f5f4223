use Rattle.task_deques.proofs.KeptLaws.{takes}
use Rattle.task_deques.proofs.holders.TaskStealer.steal.Goals as goal

pub steal_as-requires-clause-takes : goal.steal_as-requires-clause-takes
steal_as-requires-clause-takes g c = takes _ _ _ 1 c.loop.self.part
