use Rattle.std.proofs.Common.{ap, ◌∙◌, ◌∷◌}
use Rattle.kan_model.specs.Programs.Environments.{terms_of}
use Rattle.stream_core.specs.Tasks as pending
use Rattle.stream_core.specs.CodeTasks.{task, stack}
use Rattle.stream_core.proofs.TaskLaws.{each-last}
use Rattle.stream_core.proofs.compound_goals.run_at_each.Goals as goal

pub returns : goal.returns
returns g c goals =
    let means = g.St.Store.meaning in
    c.in_ok-push_run.ensures goals
    ∙ ap (λ ts. pending.Task.run_at (goals c.args.goal) (terms_of c.args.env) (means c.in-Some.last) ∷ pending.Task.append_two ∷ ts) (c.in_ok-run_at_copies.ensures goals)
    ∙ each-last means (goals c.args.goal) (terms_of c.args.env) c.args.heads c.pop.new.self c.in-Some.last (stack (task means goals) c.args.tasks.now.items) c.in-Some.ensures.last
