use Rattle.stream_core.proofs.Paths.ForceLaws.{call-may, called-force, pause-may, paused-force, no-leaf}
use Rattle.stream_core.proofs.forcing.expand.Goals as goal

pub enter_call-requires-clause-may : goal.enter_call-requires-clause-may
enter_call-requires-clause-may g c =
    call-may (g.N.Nodes.table c.args.nodes.now) c.args.program.now g.St.Store.meaning c.requires.table c.args.thunk c.in-Call.rel c.in-Call.args c.in-Call.store c.in-Call.is c.requires.may

pub returns-in_ok-made-in-Call-clause-made : goal.returns-in_ok-made-in-Call-clause-made
returns-in_ok-made-in-Call-clause-made g c =
    called-force (g.N.Nodes.table c.args.nodes.now) c.args.program.now g.St.Store.meaning c.requires.table c.args.thunk c.in-Call.rel c.in-Call.args c.in-Call.store _ c.in-Call.is c.in_ok-made-in-Call.ensures.made

pub run_with-requires-clause-is : goal.run_with-requires-clause-is
run_with-requires-clause-is g c =
    (pause-may (g.N.Nodes.table c.args.nodes.now) c.args.program.now g.St.Store.meaning c.requires.table c.args.thunk c.in-Pause.goal c.in-Pause.env c.in-Pause.store c.in-Pause.is c.requires.may).found

pub run_with-requires-clause-below : goal.run_with-requires-clause-below
run_with-requires-clause-below g c =
    (pause-may (g.N.Nodes.table c.args.nodes.now) c.args.program.now g.St.Store.meaning c.requires.table c.args.thunk c.in-Pause.goal c.in-Pause.env c.in-Pause.store c.in-Pause.is c.requires.may).below

pub run_with-requires-clause-room : goal.run_with-requires-clause-room
run_with-requires-clause-room g c =
    (pause-may (g.N.Nodes.table c.args.nodes.now) c.args.program.now g.St.Store.meaning c.requires.table c.args.thunk c.in-Pause.goal c.in-Pause.env c.in-Pause.store c.in-Pause.is c.requires.may).room

pub returns-in_ok-made-in-Pause-clause-made : goal.returns-in_ok-made-in-Pause-clause-made
returns-in_ok-made-in-Pause-clause-made g c =
    paused-force (g.N.Nodes.table c.args.nodes.now) c.args.program.now g.St.Store.meaning c.requires.table c.args.thunk c.in-Pause.goal c.in-Pause.env c.in-Pause.store _ c.in-Pause.is c.in_ok-made-in-Pause.ensures.made

pub unreachable-requires : goal.unreachable-requires
unreachable-requires g c = no-leaf (g.N.Nodes.table c.args.nodes.now) g.St.Store.meaning c.args.thunk c.requires.last c.in_default.not-Call c.in_default.not-Pause
