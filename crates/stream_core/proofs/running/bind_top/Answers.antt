use Rattle.std.proofs.Common.{ap, ◌∙◌, ◌∷◌, map}
use Rattle.std.specs.Prelude.{option_map}
use Rattle.kan_model.specs.Programs.Closed as programs
use Rattle.kan_model.specs.Programs.Environments.{terms_of}
use Rattle.stream_core.specs.CodeTasks.{tasks_of}
use Rattle.stream_core.specs.Tables.{HasStream, stream_in}
use Rattle.stream_core.proofs.StreamLaws.{becomes-bound-top, bound-going, below-going, top-may-bind, none-to-bind, heads-going, stack-stays, all-belong}
use Rattle.kan_model.proofs.ListLaws.{Each-last, Each-front}
use Rattle.stream_core.proofs.StackLaws.{stack-pop, none-pop}
use Rattle.stream_core.proofs.running.bind_top.Goals as goal

pub unreachable-requires : goal.unreachable-requires
unreachable-requires g c =
    none-to-bind (programs.meaning c.args.program.now) _ _ (tasks_of c.args.program.now g.St.Store.meaning c.args.tasks.now.items) _
    (none-pop (stream_in (g.N.Nodes.table c.args.nodes.now) g.St.Store.meaning) _ _ _ _ _ _ c.pop.ensures.items c.pop.ensures.rest c.pop.ensures.cases c.in_default.not-Some) c.requires.ready

pub bound_tail-requires-clause-is : goal.bound_tail-requires-clause-is
bound_tail-requires-clause-is g c =
    let p = c.args.program.now in
    (top-may-bind (programs.meaning p) (programs.goal p c.args.goal) (terms_of c.args.env) (tasks_of p g.St.Store.meaning c.args.tasks.now.items) _ _ _ (stack-pop (stream_in (g.N.Nodes.table c.args.nodes.now) g.St.Store.meaning) _ _ _ c.in-Some.ensures.items) c.requires.ready).0

pub bound_tail-requires-clause-below : goal.bound_tail-requires-clause-below
bound_tail-requires-clause-below g c =
    let p = c.args.program.now in
    let means = g.St.Store.meaning in
    let t = g.N.Nodes.table c.args.nodes.now in
    let may = top-may-bind (programs.meaning p) (programs.goal p c.args.goal) (terms_of c.args.env) (tasks_of p means c.args.tasks.now.items) _ _ _ (stack-pop (stream_in t means) _ _ _ c.in-Some.ensures.items) c.requires.ready in
    below-going (terms_of c.args.env) (map means c.in-Some.stream.heads) (option_map t.tree c.in-Some.stream.tail) may.2

pub bound_tail-requires-clause-belong : goal.bound_tail-requires-clause-belong
bound_tail-requires-clause-belong g c = (Each-front (HasStream (g.N.Nodes.table c.args.nodes.now)) _ _ _ c.in-Some.ensures.items c.requires.belong).1

pub returns-clause-becomes : goal.returns-clause-becomes
returns-clause-becomes g c =
    let p = c.args.program.now in
    let means = g.St.Store.meaning in
    let t = g.N.Nodes.table c.args.nodes.now in
    let u = g.N.Nodes.table c.bound_tail.new.nodes in
    let was = stream_in t means in
    let is = stream_in u means in
    let first = Each-front (HasStream t) _ _ _ c.in-Some.ensures.items c.requires.belong in
    becomes-bound-top (programs.meaning p) (programs.goal p c.args.goal) (terms_of c.args.env) _ _ _ _ _ _ _ (map means c.in-Some.stream.heads)
    (stack-pop was _ _ _ c.in-Some.ensures.items)
    (c.in_ok-run_at_each.ensures (programs.goal p))
    (heads-going (map means c.in-Some.stream.heads) (option_map t.tree c.in-Some.stream.tail))
    (stack-pop is _ _ _ c.in_ok-push.ensures.items
    ∙ ap (λ vs. is c.in_ok-last.last ∷ vs) (stack-stays t.belongs u.belongs t.tree u.tree means c.in_ok-last.ensures.adds.ids _ first.0))
    (c.in_ok-last.ensures.made ∙ bound-going (programs.goal p c.args.goal) (terms_of c.args.env) (map means c.in-Some.stream.heads) (option_map t.tree c.in-Some.stream.tail))

pub returns-clause-belong : goal.returns-clause-belong
returns-clause-belong g c =
    let t = g.N.Nodes.table c.args.nodes.now in
    let u = g.N.Nodes.table c.bound_tail.new.nodes in
    let first = Each-front (HasStream t) _ _ _ c.in-Some.ensures.items c.requires.belong in
    rw c.in_ok-push.ensures.items (Each-last (HasStream u) _ _ (all-belong t.belongs u.belongs t.tree u.tree c.in_ok-last.ensures.adds.ids _ first.0) c.in_ok-last.ensures.belong)
