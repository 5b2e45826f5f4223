use Rattle.std.proofs.Common.{ap₂, refl}
use Rattle.stream_core.specs.Tasks as pending
use Rattle.stream_core.specs.CodeTasks.{task}
use Rattle.stream_core.proofs.StackLaws.{pushed-one}
use Rattle.stream_core.proofs.compound_goals.split_either.Goals as goal

pub returns : goal.returns
returns g c goals =
    let f = task g.St.Store.meaning goals in
    pushed-one f _ _ _ _ _ c.in_ok-push-3.ensures.items refl
    (pushed-one f _ _ _ _ _ c.in_ok-push-2.ensures.items (ap₂ (λ env st. pending.Task.run_at (goals c.args.left) env st) c.in_ok-left_env.ensures c.in_ok-left_store.ensures)
    (pushed-one f _ _ _ _ _ c.in_ok-push.ensures.items refl refl))
