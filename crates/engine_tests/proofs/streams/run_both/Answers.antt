use Rattle.stream_core.proofs.TableLaws.{adds_twice}
use Rattle.engine_tests.proofs.BareLaws.{adds_stay, bare_stays, bare_both}
use Rattle.engine_tests.proofs.streams.run_both.Goals as goal

pub run_alone-requires-2-clause-table : goal.run_alone-requires-2-clause-table
run_alone-requires-2-clause-table g c =
    adds_stay c.args.program.now (g.N.Nodes.table c.args.nodes.now) (g.N.Nodes.table c.run_alone.new.nodes) c.requires.table c.run_alone.ensures.adds

pub append-requires-clause-left : goal.append-requires-clause-left
append-requires-clause-left g c =
    let u = g.N.Nodes.table c.run_alone.new.nodes in
    let v = g.N.Nodes.table c.run_alone-2.new.nodes in
    (bare_stays u v g.St.Store.meaning c.in_ok-left.left c.run_alone-2.ensures.adds c.in_ok-left.ensures.bare).belong

pub append-requires-clause-right : goal.append-requires-clause-right
append-requires-clause-right g c = c.in_ok-right.ensures.bare.belong

pub returns-clause-bare : goal.returns-clause-bare
returns-clause-bare g c =
    let means = g.St.Store.meaning in
    let u = g.N.Nodes.table c.run_alone.new.nodes in
    let v = g.N.Nodes.table c.run_alone-2.new.nodes in
    let w = g.N.Nodes.table c.append.new.nodes in
    let made = c.in_ok-made.ensures in
    bare_both v w means c.in_ok-left.left c.in_ok-right.right c.in_ok-made.made
    (bare_stays u v means c.in_ok-left.left c.run_alone-2.ensures.adds c.in_ok-left.ensures.bare) c.in_ok-right.ensures.bare c.append.ensures.adds made.belong made.fits

pub returns-in_err-right-clause-adds : goal.returns-in_err-right-clause-adds
returns-in_err-right-clause-adds g c =
    adds_twice (g.N.Nodes.table c.args.nodes.now) (g.N.Nodes.table c.run_alone.new.nodes) (g.N.Nodes.table c.run_alone-2.new.nodes) c.run_alone.ensures.adds c.run_alone-2.ensures.adds

pub returns-in_err-made-clause-adds : goal.returns-in_err-made-clause-adds
returns-in_err-made-clause-adds g c =
    let t = g.N.Nodes.table c.args.nodes.now in
    let v = g.N.Nodes.table c.run_alone-2.new.nodes in
    adds_twice t v (g.N.Nodes.table c.append.new.nodes) (adds_twice t (g.N.Nodes.table c.run_alone.new.nodes) v c.run_alone.ensures.adds c.run_alone-2.ensures.adds) c.append.ensures.adds

pub returns-clause-adds : goal.returns-clause-adds
returns-clause-adds g c =
    let t = g.N.Nodes.table c.args.nodes.now in
    let v = g.N.Nodes.table c.run_alone-2.new.nodes in
    adds_twice t v (g.N.Nodes.table c.append.new.nodes) (adds_twice t (g.N.Nodes.table c.run_alone.new.nodes) v c.run_alone.ensures.adds c.run_alone-2.ensures.adds) c.append.ensures.adds
