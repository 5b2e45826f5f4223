use Rattle.std.proofs.Common.{ap, [], refl, sym, ◌∙◌, length}
use Rattle.kan_model.specs.Programs.Environments.{terms_of}
use Rattle.kan_model.specs.Programs.Closed as programs
use Rattle.stream_core.specs.Tables.{stream_in}
use Rattle.stream_core.specs.CodeTasks.{task, stack}
use Rattle.stream_core.proofs.ClosedLaws.{program-closed}
use Rattle.stream_core.proofs.StreamLaws.{run-streams_after, only-one}
use Rattle.stream_core.proofs.StackLaws.{pushed-one}
use Rattle.stream_core.proofs.TaskLaws.{run-ready}
use Rattle.stream_core.proofs.running.run_with.Goals as goal

pub finish-requires-clause-ready : goal.finish-requires-clause-ready
finish-requires-clause-ready g c =
    let p = c.args.program.now in
    let f = task g.St.Store.meaning (programs.goal p) in
    run-ready (programs.meaning p) (program-closed p c.requires.table.small) (programs.goal p c.args.goal) (terms_of c.args.env) (terms_of c.args.env) (g.St.Store.meaning c.args.store) _ _
    c.requires.is.0 c.requires.is.1 c.requires.below c.requires.room
    (pushed-one f _ _ _ _ [] c.in_ok-push.ensures.items refl (ap (stack f) c.in_ok-tasks.ensures)) refl

pub finish-requires-clause-one : goal.finish-requires-clause-one
finish-requires-clause-one g c =
    let p = c.args.program.now in
    let f = task g.St.Store.meaning (programs.goal p) in
    let is = stream_in (g.N.Nodes.table c.args.nodes.now) g.St.Store.meaning in
    ap length (run-streams_after (programs.goal p c.args.goal) (terms_of c.args.env) (terms_of c.args.env) (g.St.Store.meaning c.args.store) _ _
    (pushed-one f _ _ _ _ [] c.in_ok-push.ensures.items refl (ap (stack f) c.in_ok-tasks.ensures)) (ap (stack is) c.in_ok-values.ensures) refl)

pub returns-clause-made : goal.returns-clause-made
returns-clause-made g c =
    let p = c.args.program.now in
    let f = task g.St.Store.meaning (programs.goal p) in
    let is = stream_in (g.N.Nodes.table c.args.nodes.now) g.St.Store.meaning in
    only-one (sym c.in_ok-made.ensures.made ∙ run-streams_after (programs.goal p c.args.goal) (terms_of c.args.env) (terms_of c.args.env) (g.St.Store.meaning c.args.store) _ _
    (pushed-one f _ _ _ _ [] c.in_ok-push.ensures.items refl (ap (stack f) c.in_ok-tasks.ensures)) (ap (stack is) c.in_ok-values.ensures) refl)
