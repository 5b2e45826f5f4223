use Rattle.std.specs.Prelude.{flat_map}
use Rattle.task_deques.specs.Holders.{taken_from, taken_through}
use Rattle.crew.proofs.TakingLaws.{took_own}
use Rattle.crew.proofs.taking.own_task.Goals as goal

pub returns-clause-taken : goal.returns-clause-taken
returns-clause-taken g c =
    let holder = c.args.holder.now in
    took_own (taken_from holder.deque) (taken_from c.take.new.self) (flat_map taken_through holder.others.items) c.take.result c.take.ensures.some c.take.ensures.none
