use Rattle.std.proofs.Common.{ap, ◌∙◌, ◌∷◌, arith}
use Rattle.stream_core.specs.Tables.{HasStream, stream_in}
use Rattle.stream_core.proofs.StreamLaws.{becomes-top, stack-stays, all-belong}
use Rattle.kan_model.proofs.ListLaws.{Each-last, Each-front}
use Rattle.stream_core.proofs.StackLaws.{stack-pop, two-pops, one-pop}
use Rattle.stream_core.proofs.running.append_top.Goals as goal

pub unreachable-requires : goal.unreachable-requires
unreachable-requires g c =
    let two = c.requires.two in one-pop _ _ _ _ _ _ c.pop.ensures.items c.pop.ensures.rest c.pop.ensures.cases c.in_default.not-Some (omega (arith, two))

pub unreachable-requires-in_default-pop : goal.unreachable-requires-in_default-pop
unreachable-requires-in_default-pop g c = two-pops _ _ _ _ _ _ _ _ c.in-Some.ensures.items c.pop-2.ensures.items c.pop-2.ensures.rest c.pop-2.ensures.cases c.in_default-pop.not-Some c.requires.two

pub returns-clause-becomes : goal.returns-clause-becomes
returns-clause-becomes g c program ts =
    let means = g.St.Store.meaning in
    let t = g.N.Nodes.table c.args.nodes.now in
    let u = g.N.Nodes.table c.append.new.nodes in
    let was = stream_in t means in
    let is = stream_in u means in
    let first = Each-front (HasStream t) _ _ _ c.in-Some.ensures.items c.requires.belong in
    let second = Each-front (HasStream t) _ _ _ c.in-Some-pop.ensures.items first.0 in
    becomes-top program ts _ _ _ _ _ _
    (stack-pop was _ _ _ c.in-Some.ensures.items ∙ ap (λ vs. was c.in-Some.left ∷ vs) (stack-pop was _ _ _ c.in-Some-pop.ensures.items))
    (stack-pop is _ _ _ c.in_ok-push.ensures.items
    ∙ ap (λ vs. is c.in_ok-stream.stream ∷ vs) (stack-stays t.belongs u.belongs t.tree u.tree means c.in_ok-stream.ensures.adds.ids _ second.0))
    c.in_ok-stream.ensures.made

pub returns-clause-belong : goal.returns-clause-belong
returns-clause-belong g c =
    let t = g.N.Nodes.table c.args.nodes.now in
    let u = g.N.Nodes.table c.append.new.nodes in
    let first = Each-front (HasStream t) _ _ _ c.in-Some.ensures.items c.requires.belong in
    let second = Each-front (HasStream t) _ _ _ c.in-Some-pop.ensures.items first.0 in
    rw c.in_ok-push.ensures.items (Each-last (HasStream u) _ _ (all-belong t.belongs u.belongs t.tree u.tree c.in_ok-stream.ensures.adds.ids _ second.0) c.in_ok-stream.ensures.belong)
