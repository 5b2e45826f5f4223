use Rattle.std.proofs.Common.{◌≡◌, true, sym, subst}
use Rattle.stream_core.specs.InnerSuspensions.{MayForce, has_inner, inner_of}
use Rattle.stream_core.specs.Tables.{IsForce}
use Rattle.stream_core.proofs.Paths.ForceLaws.{made-force, force-same}
use Rattle.stream_core.proofs.TableLaws.{adds_more}
use Rattle.stream_core.proofs.forcing.force_around.Goals as goal

pub go_around-requires-clause-may : goal.go_around-requires-clause-may
go_around-requires-clause-may g c = subst (MayForce (g.N.Nodes.table c.args.nodes.now).program) (sym c.in_ok-thunk.ensures.stands) c.requires.may

pub go_around-requires-clause-around : goal.go_around-requires-clause-around
go_around-requires-clause-around g c = subst (λ x. has_inner x ≡ true) (sym c.in_ok-thunk.ensures.stands) c.requires.around

pub go_around-requires-clause-inside : goal.go_around-requires-clause-inside
go_around-requires-clause-inside g c =
    subst (λ x. IsForce (g.N.Nodes.table c.args.nodes.now) g.St.Store.meaning (inner_of x) c.args.inside) (sym c.in_ok-thunk.ensures.stands) c.requires.inside

pub keep-requires-clause-belongs : goal.keep-requires-clause-belongs
keep-requires-clause-belongs g c = (c.in_ok-made.ensures.adds.ids c.args.at.now c.requires.belongs).0

pub keep-requires-clause-force : goal.keep-requires-clause-force
keep-requires-clause-force g c =
    made-force g.St.Store.meaning (g.N.Nodes.table c.args.nodes.now) (g.N.Nodes.table c.go_around.new.nodes) c.args.at.now _ c.in_ok-made.made c.in_ok-made.ensures.adds c.requires.belongs c.in_ok-thunk.ensures.stands
    c.in_ok-made.ensures.belong c.in_ok-made.ensures.made

pub returns-clause-force : goal.returns-clause-force
returns-clause-force g c =
    force-same g.St.Store.meaning _ (g.N.Nodes.table c.args.nodes.now) (g.N.Nodes.table c.go_around.new.nodes) (g.N.Nodes.table c.keep.new.self) c.args.at.now c.in_ok-kept.kept c.in_ok-made.ensures.adds c.requires.belongs
    c.in_ok-kept.ensures.force

pub returns-clause-kept : goal.returns-clause-kept
returns-clause-kept g c =
    adds_more c.args.at.now (g.N.Nodes.table c.args.nodes.now) (g.N.Nodes.table c.go_around.new.nodes) (g.N.Nodes.table c.keep.new.self) c.in_ok-made.ensures.adds c.in_ok-kept.ensures.kept
