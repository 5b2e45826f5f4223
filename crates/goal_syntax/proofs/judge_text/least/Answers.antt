use Rattle.goal_syntax.proofs.Judging.FaultLaws.{least_step, least_before_none}
use Rattle.goal_syntax.specs.Judging.FaultLists.{fault_list}
use Rattle.goal_syntax.proofs.judge_text.least.Goals as goal

pub loop-fault-init : goal.loop-fault-init
loop-fault-init c = least_before_none (fault_list c.args.faults.items)

pub loop-fault-preserved : goal.loop-fault-preserved
loop-fault-preserved c = least_step _ _ c.in-Some.fault _ _ _ c.in-Some.ensures.items c.first_of.ensures c.loop-fault.invariant
