use Rattle.stream_core.proofs.TableLaws.{adds_twice}
use Rattle.engine_tests.proofs.BareLaws.{adds_stay, plain_of, bare_heads, bare_rest, bare_bound}
use Rattle.engine_tests.proofs.streams.run_bound.Goals as goal

pub bind_all-requires-clause-table : goal.bind_all-requires-clause-table
bind_all-requires-clause-table g c =
    adds_stay c.args.program.now (g.N.Nodes.table c.args.nodes.now) (g.N.Nodes.table c.run_both.new.nodes) c.requires.table c.run_both.ensures.adds

pub bind_all-requires-clause-is : goal.bind_all-requires-clause-is
bind_all-requires-clause-is g c = plain_of c.args.program.now c.args.next _ c.requires.tables c.requires.next

pub bind_all-requires-clause-room : goal.bind_all-requires-clause-room
bind_all-requires-clause-room g c =
    bare_heads (g.N.Nodes.table c.run_both.new.nodes) g.St.Store.meaning _ c.in_ok-stream.stream c.no_slots-env.ensures c.in_ok-stream.ensures.bare

pub bind_all-requires-clause-below : goal.bind_all-requires-clause-below
bind_all-requires-clause-below g c =
    bare_rest (g.N.Nodes.table c.run_both.new.nodes) g.St.Store.meaning _ c.in_ok-stream.stream c.no_slots-env.ensures

pub bind_all-requires-clause-belong : goal.bind_all-requires-clause-belong
bind_all-requires-clause-belong g c = c.in_ok-stream.ensures.bare.belong

pub returns-clause-bare : goal.returns-clause-bare
returns-clause-bare g c =
    let p = c.args.program.now in
    let t = g.N.Nodes.table c.args.nodes.now in
    let u = g.N.Nodes.table c.run_both.new.nodes in
    let v = g.N.Nodes.table c.bind_all.new.nodes in
    let made = c.in_ok-made.ensures in
    bare_bound p u v g.St.Store.meaning c.args.next _ c.in_ok-stream.stream c.in_ok-made.made (adds_stay p t u c.requires.table c.run_both.ensures.adds) c.bind_all.ensures.adds
    c.requires.tables c.requires.next c.no_slots-env.ensures c.in_ok-stream.ensures.bare made.belong made.fits

pub returns-in_err-made-clause-adds : goal.returns-in_err-made-clause-adds
returns-in_err-made-clause-adds g c =
    adds_twice (g.N.Nodes.table c.args.nodes.now) (g.N.Nodes.table c.run_both.new.nodes) (g.N.Nodes.table c.bind_all.new.nodes) c.run_both.ensures.adds c.bind_all.ensures.adds

pub returns-clause-adds : goal.returns-clause-adds
returns-clause-adds g c =
    adds_twice (g.N.Nodes.table c.args.nodes.now) (g.N.Nodes.table c.run_both.new.nodes) (g.N.Nodes.table c.bind_all.new.nodes) c.run_both.ensures.adds c.bind_all.ensures.adds
