use Rattle.std.proofs.Common.{ap, ap₂, refl, ◌∙◌, ◌++◌}
use Rattle.kan_model.specs.Streams.Running.{variables}
use Rattle.kan_model.specs.Programs.Environments.{terms_of}
use Rattle.stream_core.specs.Tasks as pending
use Rattle.stream_core.specs.CodeTasks.{task}
use Rattle.stream_core.proofs.StackLaws.{pushed-one}
use Rattle.stream_core.proofs.compound_goals.split_fresh.Goals as goal

pub returns : goal.returns
returns g c goals =
    let f = task g.St.Store.meaning goals in
    pushed-one f _ _ _ _ _ c.in_ok-push.ensures.items
    (ap₂ (λ env st. pending.Task.run_at (goals c.args.body) env st)
    (c.in_ok-env.ensures ∙ ap (λ n. terms_of c.args.env ++ variables n c.args.count) c.counter.ensures) c.in_ok-store.ensures) refl
