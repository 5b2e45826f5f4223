use Rattle.task_deques.proofs.KeptLaws.{merges}
use Rattle.task_deques.proofs.holders.TaskDeque.absorb.Goals as goal

pub absorb-requires-clause-rule : goal.absorb-requires-clause-rule
absorb-requires-clause-rule g c = merges _ _ _ _ _ c.args.self.now.part
