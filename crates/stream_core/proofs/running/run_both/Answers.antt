use Rattle.std.proofs.Common.{ap, refl, ◌∙◌, sym, ◌∷◌, map}
use Rattle.std.specs.Prelude.{option_map}
use Rattle.kan_model.specs.Streams.Running.{run}
use Rattle.kan_model.specs.Streams.Stream as model
use Rattle.kan_model.specs.Programs.Environments.{terms_of}
use Rattle.kan_model.specs.Programs.Closed as programs
use Rattle.stream_core.specs.AtomicGoals.{ends_with}
use Rattle.stream_core.specs.CodeTasks.{streams_of}
use Rattle.stream_core.specs.Tables.{stream_in}
use Rattle.stream_core.proofs.TaskLaws.{becomes-both, becomes-both-one, becomes-both-none}
use Rattle.stream_core.proofs.ClosedLaws.{program-closed}
use Rattle.stream_core.proofs.StreamLaws.{on-ok, becomes-moved, count-some}
use Rattle.stream_core.proofs.StackLaws.{stack-pop}
use Rattle.stream_core.proofs.running.run_both.Goals as goal

pub returns-in-Some-clause-becomes : goal.returns-in-Some-clause-becomes
returns-in-Some-clause-becomes g c =
    let p = c.args.program.now in
    let means = g.St.Store.meaning in
    let ran = ap (λ o. ends_with (option_map means o)) (sym c.in-Some.is) ∙ c.in_ok-longer.ensures ∙ ap (λ h. run h (terms_of c.args.env) (means c.args.store)) (sym c.goal_node-node.ensures.is) in
    let step = becomes-both-one (programs.meaning p) (program-closed p c.requires.small) (programs.goal p c.args.first) (programs.goal p c.args.second) (terms_of c.args.env)
    (means c.args.store) (means c.in-Some.store) _ _ (count-some _ _ _) ran in
    on-ok _ _ _ (λ stacks. becomes-moved (programs.meaning p) _ _ _ _ _ _ step (stacks (programs.goal p)) refl) c.run_alone.ensures

pub returns-in_ok-push-in-None-clause-becomes : goal.returns-in_ok-push-in-None-clause-becomes
returns-in_ok-push-in-None-clause-becomes g c =
    let p = c.args.program.now in
    let means = g.St.Store.meaning in
    let was = stream_in (g.N.Nodes.table c.args.table.now) means in
    let ran = ap (λ o. ends_with (option_map means o)) (sym c.in-None.is) ∙ c.in_ok-longer.ensures ∙ ap (λ h. run h (terms_of c.args.env) (means c.args.store)) (sym c.goal_node-node.ensures.is) in
    let step = becomes-both-none (programs.meaning p) (program-closed p c.requires.small) (programs.goal p c.args.first) (programs.goal p c.args.second) (terms_of c.args.env)
    (means c.args.store) _ _ (count-some _ _ _) ran in
    becomes-moved (programs.meaning p) _ _ _ _ _ _ step refl
    (stack-pop was _ _ _ c.in_ok-push-in-None.ensures.items ∙ ap (λ hs. model.Stream.ends (map means hs) ∷ streams_of (g.N.Nodes.table c.args.table.now) means c.args.values.now.items) c.new.ensures)

pub returns-else-ends_at_once-clause-becomes : goal.returns-else-ends_at_once-clause-becomes
returns-else-ends_at_once-clause-becomes g c =
    let p = c.args.program.now in
    on-ok _ _ _ (λ stacks. becomes-moved (programs.meaning p) _ _ _ _ _ _
    (becomes-both (programs.meaning p) (program-closed p c.requires.small) (programs.goal p c.args.first) (programs.goal p c.args.second) (terms_of c.args.env) (g.St.Store.meaning c.args.store) _ _)
    (stacks (programs.goal p)) refl) c.split_both.ensures
