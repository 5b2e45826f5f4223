use Rattle.task_deques.proofs.KeptLaws.{begins}
use Rattle.task_deques.proofs.holders.TaskDeque.new.Goals as goal

pub fifo_as-made-requires : goal.fifo_as-made-requires
fifo_as-made-requires g c = begins _
