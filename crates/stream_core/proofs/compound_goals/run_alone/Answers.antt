use Rattle.std.proofs.Common.{refl}
use Rattle.stream_core.specs.CodeTasks.{task}
use Rattle.stream_core.proofs.StackLaws.{pushed-one}
use Rattle.stream_core.proofs.compound_goals.run_alone.Goals as goal

pub returns : goal.returns
returns g c goals =
    let f = task g.St.Store.meaning goals in
    pushed-one f _ _ _ _ _ c.in_ok-push-2.ensures.items refl (pushed-one f _ _ _ _ _ c.in_ok-push.ensures.items refl refl)
