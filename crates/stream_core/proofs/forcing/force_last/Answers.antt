use Rattle.std.proofs.Common.{◌≡◌, false, sym, subst}
use Rattle.stream_core.specs.InnerSuspensions.{MayForce, has_inner}
use Rattle.stream_core.specs.PathDown.{EndsPath}
use Rattle.stream_core.proofs.Paths.ForceLaws.{made-force, force-same}
use Rattle.stream_core.proofs.TableLaws.{adds_more, found-more}
use Rattle.stream_core.proofs.forcing.force_last.Goals as goal

pub expand-requires-clause-may : goal.expand-requires-clause-may
expand-requires-clause-may g c = subst (MayForce (g.N.Nodes.table c.args.nodes.now).program) (sym c.in_ok-thunk-in-None.ensures.stands) c.requires.may

pub expand-requires-clause-last : goal.expand-requires-clause-last
expand-requires-clause-last g c =
    let t = g.N.Nodes.table c.args.nodes.now in
    let end = subst (EndsPath t g.St.Store.meaning c.args.last.now) c.in-None.is c.requires.end in
    subst (λ x. has_inner x ≡ false) (sym c.in_ok-thunk-in-None.ensures.stands) end.0

pub keep-requires-clause-belongs : goal.keep-requires-clause-belongs
keep-requires-clause-belongs g c = (c.in_ok-made-in-None.ensures.adds.ids c.args.last.now c.requires.belongs).0

pub keep-requires-clause-force : goal.keep-requires-clause-force
keep-requires-clause-force g c =
    made-force g.St.Store.meaning (g.N.Nodes.table c.args.nodes.now) (g.N.Nodes.table c.expand.new.nodes) c.args.last.now _ c.in_ok-made-in-None.made c.in_ok-made-in-None.ensures.adds c.requires.belongs c.in_ok-thunk-in-None.ensures.stands
    c.in_ok-made-in-None.ensures.belong c.in_ok-made-in-None.ensures.made

pub returns-in-Some-clause-force : goal.returns-in-Some-clause-force
returns-in-Some-clause-force g c =
    (subst (EndsPath (g.N.Nodes.table c.args.nodes.now) g.St.Store.meaning c.args.last.now) c.in-Some.is c.requires.end).0

pub returns-in-Some-clause-kept : goal.returns-in-Some-clause-kept
returns-in-Some-clause-kept g c =
    let t = g.N.Nodes.table c.args.nodes.now in
    found-more t c.args.last.now (subst (EndsPath t g.St.Store.meaning c.args.last.now) c.in-Some.is c.requires.end).1

pub returns-in_ok-kept-in-None-clause-force : goal.returns-in_ok-kept-in-None-clause-force
returns-in_ok-kept-in-None-clause-force g c =
    force-same g.St.Store.meaning _ (g.N.Nodes.table c.args.nodes.now) (g.N.Nodes.table c.expand.new.nodes) (g.N.Nodes.table c.keep.new.self) c.args.last.now c.in_ok-kept-in-None.kept c.in_ok-made-in-None.ensures.adds c.requires.belongs
    c.in_ok-kept-in-None.ensures.force

pub returns-in_ok-kept-in-None-clause-kept : goal.returns-in_ok-kept-in-None-clause-kept
returns-in_ok-kept-in-None-clause-kept g c =
    adds_more c.args.last.now (g.N.Nodes.table c.args.nodes.now) (g.N.Nodes.table c.expand.new.nodes) (g.N.Nodes.table c.keep.new.self) c.in_ok-made-in-None.ensures.adds c.in_ok-kept-in-None.ensures.kept
