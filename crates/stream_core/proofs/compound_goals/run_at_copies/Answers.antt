use Rattle.std.proofs.Common.{ap, sym, ◌∙◌, ◌∷◌, [], map, reverse}
use Rattle.std.proofs.lemmas.List.{reverse-append}
use Rattle.kan_model.specs.Programs.Environments.{terms_of}
use Rattle.stream_core.specs.Tasks as pending
use Rattle.stream_core.specs.CodeTasks.{task, stack}
use Rattle.stream_core.proofs.compound_goals.run_at_copies.Goals as goal

pub loop-store-preserved : goal.loop-store-preserved
loop-store-preserved g c goals =
    let means = g.St.Store.meaning in
    let put = pending.run_each (goals c.args.goal) (terms_of c.args.env.now) in
    ap (put (map means (reverse c.pop.new.self.items))) (c.in_ok-push_run.ensures goals ∙ ap (λ env. pending.Task.run_at (goals c.args.goal) env (means c.in-Some.store) ∷ pending.Task.append_two ∷ stack (task means goals) c.loop-store.tasks.items) c.in_ok-copy.ensures)
    ∙ ap (λ w. put (map means w) (stack (task means goals) c.loop-store.tasks.items)) (sym (reverse-append c.pop.new.self.items (c.in-Some.store ∷ [])) ∙ ap reverse (sym c.in-Some.ensures.items))
    ∙ c.loop-store.invariant goals
