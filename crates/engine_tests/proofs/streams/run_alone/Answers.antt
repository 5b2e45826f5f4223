use Rattle.engine_tests.proofs.BareLaws.{plain_there, plain_slots, none_below, bare_run}
use Rattle.engine_tests.proofs.streams.run_alone.Goals as goal

pub run_goal-requires-clause-there : goal.run_goal-requires-clause-there
run_goal-requires-clause-there g c = plain_there c.args.program.now c.args.goal c.requires.tables c.requires.there

pub run_goal-requires-clause-slots : goal.run_goal-requires-clause-slots
run_goal-requires-clause-slots g c = plain_slots c.args.program.now c.args.goal _ c.requires.tables c.requires.there

pub run_goal-requires-clause-below : goal.run_goal-requires-clause-below
run_goal-requires-clause-below g c = none_below _ _ c.no_slots-env.ensures

pub returns-clause-bare : goal.returns-clause-bare
returns-clause-bare g c =
    let means = g.St.Store.meaning in
    let t = g.N.Nodes.table c.args.nodes.now in
    let u = g.N.Nodes.table c.run_goal.new.nodes in
    let made = c.in_ok-made.ensures in
    bare_run c.args.program.now t u means c.args.goal (means c.in_ok-store.store) c.in_ok-made.made c.requires.table c.run_goal.ensures.adds c.requires.tables c.requires.there c.in_ok-store.ensures made.belong made.fits
