use Rattle.std.proofs.Common.{ap, ◌∙◌}
use Rattle.task_deques.specs.Holders.{taken_from}
use Rattle.task_deques.proofs.GatherLaws.{drained, drained_whole}
use Rattle.task_deques.proofs.gathering.drain.Goals as goal

pub loop-task-preserved : goal.loop-task-preserved
loop-task-preserved g c =
    let h = c.loop-task.invariant in
    let e = c.in-Some.ensures in
    record {
      whole = ap (λ s. s.1) e.same ∙ h.whole;
      same = e.pushed ∙ h.same;
      moved = drained (taken_from c.loop-task.deque) (taken_from c.take.new.self) c.args.left.now.items (taken_from c.args.deque) c.loop-task.left.items c.push.new.self.items c.in-Some.task e.some c.in-Ok.ensures.items h.moved;
    }

pub returns : goal.returns
returns g c = let h = c.loop-task.invariant in drained_whole c.loop-task.deque _ c.args.left.now.items (taken_from c.args.deque) c.loop-task.left.items h.whole c.in_default.ensures.empty h.same h.moved
