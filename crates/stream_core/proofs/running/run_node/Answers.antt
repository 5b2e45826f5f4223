use Rattle.std.proofs.Common.{ap, refl, ◌∙◌, sym, subst, ◌+◌, ◌≤◌, ◌^◌}
use Rattle.kan_model.specs.Programs.Nodes.{goal_entry}
use Rattle.kan_model.specs.Streams.Running.{run}
use Rattle.kan_model.specs.Programs.Environments.{terms_of}
use Rattle.kan_model.specs.Programs.Closed as programs
use Rattle.kan_model.specs.Programs.Scope.{width}
use Rattle.stream_core.specs.Tasks.{IsOf, MayRun}
use Rattle.stream_core.specs.Suspensions as standing
use Rattle.stream_core.proofs.TaskLaws.{becomes-either, becomes-fresh}
use Rattle.stream_core.proofs.ClosedLaws.{program-closed, is-atomic}
use Rattle.stream_core.proofs.StreamLaws.{on-ok, becomes-goal, becomes-given, stack-stays, all-belong}
use Rattle.kan_model.proofs.ListLaws.{Each-last}
use Rattle.stream_core.proofs.StackLaws.{stack-pop}
use Rattle.stream_core.proofs.running.run_node.Goals as goal

pub run_both-requires-clause-may : goal.run_both-requires-clause-may
run_both-requires-clause-may g c =
    let p = c.args.program.now in
    subst (λ h. MayRun (programs.meaning p) h (terms_of c.args.env) (g.St.Store.meaning c.args.store)) (c.goal_node-node.ensures.is ∙ ap (λ n. programs.entry_goal p (goal_entry n)) c.in-Both.is) c.requires.may

pub returns-in-Both-clause-becomes : goal.returns-in-Both-clause-becomes
returns-in-Both-clause-becomes g c =
    let p = c.args.program.now in
    on-ok _ _ _ (λ step. becomes-goal (programs.meaning p) _ _ _ _ _ _ _ _ _ _ (c.goal_node-node.ensures.is ∙ ap (λ n. programs.entry_goal p (goal_entry n)) c.in-Both.is) step refl refl) c.run_both.ensures.becomes

pub returns-in-Either-clause-becomes : goal.returns-in-Either-clause-becomes
returns-in-Either-clause-becomes g c =
    let p = c.args.program.now in
    on-ok _ _ _ (λ stacks. becomes-goal (programs.meaning p) _ _ _ _ _ _ _ _ _ _ (c.goal_node-node.ensures.is ∙ ap (λ n. programs.entry_goal p (goal_entry n)) c.in-Either.is)
    (becomes-either (programs.meaning p) (program-closed p c.requires.table.small) (programs.goal p c.in-Either.left) (programs.goal p c.in-Either.right) (terms_of c.args.env) (g.St.Store.meaning c.args.store) _ _) (stacks (programs.goal p)) refl) c.split_either.ensures

pub returns-in-Fresh-clause-becomes : goal.returns-in-Fresh-clause-becomes
returns-in-Fresh-clause-becomes g c =
    let p = c.args.program.now in
    on-ok _ _ _ (λ stacks. becomes-goal (programs.meaning p) _ _ _ _ _ _ _ _ _ _ (c.goal_node-node.ensures.is ∙ ap (λ n. programs.entry_goal p (goal_entry n)) c.in-Fresh.is)
    (becomes-fresh (programs.meaning p) (program-closed p c.requires.table.small) c.in-Fresh.count (programs.goal p c.in-Fresh.body) (terms_of c.args.env) (g.St.Store.meaning c.args.store) _ _) (stacks (programs.goal p)) refl) c.split_fresh.ensures

pub returns-in_ok-push-in_default : goal.returns-in_ok-push-in_default
returns-in_ok-push-in_default g c =
    let p = c.args.program.now in
    let given = c.in_ok-stream-in_default.ensures in
    let means = g.St.Store.meaning in
    let kept = stack-stays (g.N.Nodes.table c.args.nodes.now).belongs (g.N.Nodes.table c.atomic_stream.new.nodes).belongs (g.N.Nodes.table c.args.nodes.now).tree (g.N.Nodes.table c.atomic_stream.new.nodes).tree means given.adds.ids c.args.values.now.items c.requires.belong in
    record {
      becomes = becomes-given (programs.meaning p) (programs.goal p c.args.goal) (terms_of c.args.env) (means c.args.store) _ _ _ _ _ _ refl
          (given.made ∙ ap (λ h. run h (terms_of c.args.env) (means c.args.store)) (sym c.goal_node-node.ensures.is)) kept
          (stack-pop (standing.stream (g.N.Nodes.table c.atomic_stream.new.nodes).tree means) _ _ _ c.in_ok-push-in_default.ensures.items);
      belong = rw c.in_ok-push-in_default.ensures.items (Each-last (standing.StreamBelongs (g.N.Nodes.table c.atomic_stream.new.nodes).belongs) c.args.values.now.items _
          (all-belong (g.N.Nodes.table c.args.nodes.now).belongs (g.N.Nodes.table c.atomic_stream.new.nodes).belongs (g.N.Nodes.table c.args.nodes.now).tree (g.N.Nodes.table c.atomic_stream.new.nodes).tree given.adds.ids c.args.values.now.items c.requires.belong) given.belong);
      adds = given.adds;
    }

pub atomic_stream-requires-clause-atomic : goal.atomic_stream-requires-clause-atomic
atomic_stream-requires-clause-atomic g c = is-atomic c.goal_node-node.result c.in_default.not-Both c.in_default.not-Either c.in_default.not-Fresh

pub atomic_stream-requires-clause-is : goal.atomic_stream-requires-clause-is
atomic_stream-requires-clause-is g c =
    subst (λ h. IsOf (programs.meaning c.args.program.now) h (terms_of c.args.env)) c.goal_node-node.ensures.is c.requires.may.0

pub atomic_stream-requires-clause-room : goal.atomic_stream-requires-clause-room
atomic_stream-requires-clause-room g c =
    subst (λ h. (g.St.Store.meaning c.args.store).counter + width h ≤ 2 ^ 63) c.goal_node-node.ensures.is c.requires.may.1.1
