use Rattle.std.proofs.Common.{ap, [], refl, sym, ◌∙◌, map, length}
use Rattle.std.specs.Prelude.{option_map}
use Rattle.kan_model.specs.Programs.Environments.{terms_of}
use Rattle.kan_model.specs.Programs.Closed as programs
use Rattle.stream_core.specs.Tables.{stream_in}
use Rattle.stream_core.specs.CodeTasks.{task, stack}
use Rattle.stream_core.proofs.ClosedLaws.{program-closed}
use Rattle.stream_core.proofs.StreamLaws.{bind-streams_after, heads-going, only-one}
use Rattle.stream_core.proofs.StackLaws.{pushed-one}
use Rattle.stream_core.proofs.TaskLaws.{bind-ready}
use Rattle.stream_core.proofs.running.bind_with.Goals as goal

pub finish-requires-clause-ready : goal.finish-requires-clause-ready
finish-requires-clause-ready g c =
    let p = c.args.program.now in
    let means = g.St.Store.meaning in
    let t = g.N.Nodes.table c.args.nodes.now in
    let f = task means (programs.goal p) in
    let is = stream_in t means in
    bind-ready (programs.meaning p) (program-closed p c.requires.table.small) (programs.goal p c.args.goal) (terms_of c.args.env) (terms_of c.args.env) (is c.args.stream) (map means c.args.stream.heads) _ _ c.requires.is
    (heads-going (map means c.args.stream.heads) (option_map t.tree c.args.stream.tail)) c.requires.room c.requires.below
    (pushed-one f _ _ _ _ [] c.in_ok-push.ensures.items refl (ap (stack f) c.in_ok-tasks.ensures))
    (pushed-one is _ _ _ _ [] c.in_ok-push-2.ensures.items refl (ap (stack is) c.in_ok-values.ensures)) refl

pub finish-requires-clause-one : goal.finish-requires-clause-one
finish-requires-clause-one g c =
    let p = c.args.program.now in
    let f = task g.St.Store.meaning (programs.goal p) in
    let is = stream_in (g.N.Nodes.table c.args.nodes.now) g.St.Store.meaning in
    ap length (bind-streams_after (programs.goal p c.args.goal) (terms_of c.args.env) (terms_of c.args.env) (is c.args.stream) _ _
    (pushed-one f _ _ _ _ [] c.in_ok-push.ensures.items refl (ap (stack f) c.in_ok-tasks.ensures))
    (pushed-one is _ _ _ _ [] c.in_ok-push-2.ensures.items refl (ap (stack is) c.in_ok-values.ensures)) refl)

pub returns-clause-made : goal.returns-clause-made
returns-clause-made g c =
    let p = c.args.program.now in
    let f = task g.St.Store.meaning (programs.goal p) in
    let is = stream_in (g.N.Nodes.table c.args.nodes.now) g.St.Store.meaning in
    only-one (sym c.in_ok-made.ensures.made ∙ bind-streams_after (programs.goal p c.args.goal) (terms_of c.args.env) (terms_of c.args.env) (is c.args.stream) _ _
    (pushed-one f _ _ _ _ [] c.in_ok-push.ensures.items refl (ap (stack f) c.in_ok-tasks.ensures))
    (pushed-one is _ _ _ _ [] c.in_ok-push-2.ensures.items refl (ap (stack is) c.in_ok-values.ensures)) refl)
