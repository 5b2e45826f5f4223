use Rattle.task_deques.proofs.KeptLaws.{takes}
use Rattle.task_deques.proofs.holders.TaskDeque.take.Goals as goal

pub pop_as-requires-clause-fifo : goal.pop_as-requires-clause-fifo
pop_as-requires-clause-fifo g c = λ _. takes _ _ _ 1 c.args.self.now.part
