use Rattle.engine_tests.proofs.BareLaws.{bare_room}
use Rattle.engine_tests.proofs.streams.expect_stream.Goals as goal

pub expect_force-requires-clause-room : goal.expect_force-requires-clause-room
expect_force-requires-clause-room g c = bare_room (g.N.Nodes.table c.args.nodes.now) g.St.Store.meaning c.args.stream.now c.requires.bare
