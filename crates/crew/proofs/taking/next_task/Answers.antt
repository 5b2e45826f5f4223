use Rattle.std.specs.Option.{option_to_list}
use Rattle.task_deques.specs.Holders.{taken_by}
use Rattle.crew.proofs.TakingLaws.{took_then}
use Rattle.crew.proofs.taking.next_task.Goals as goal

pub returns-in-None-clause-taken : goal.returns-in-None-clause-taken
returns-in-None-clause-taken g c =
    took_then (taken_by c.args.holder.now) (taken_by c.own_task.new.holder) (taken_by c.stolen_task.new.holder) (option_to_list c.stolen_task.result)
    c.in-None.ensures.taken c.stolen_task.ensures.taken

pub returns-in-None-clause-home : goal.returns-in-None-clause-home
returns-in-None-clause-home g c = λ home h. c.stolen_task.ensures.home home (c.in-None.ensures.home home h).0
