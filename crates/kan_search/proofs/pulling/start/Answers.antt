use Rattle.std.proofs.Common.{◌∙◌, map, refl}
use Rattle.kan_model.specs.Programs.Environments.{terms_of}
use Rattle.kan_model.specs.Programs.Closed as programs
use Rattle.stream_core.proofs.TableLaws.{adds_grow}
use Rattle.kan_search.proofs.StartLaws.{turned-is, started, start-room}
use Rattle.kan_search.proofs.pulling.start.Goals as goal

pub returns-clause-made : goal.returns-clause-made
returns-clause-made g c =
    let means = g.St.Store.meaning in
    let stream = c.in_ok-stream.stream in
    let pulled = c.in_ok-pulled.pulled in
    let goal_run = programs.goal c.args.program.now c.args.goal in
    turned-is (g.N.Nodes.table c.run_goal.new.nodes).tree means pulled.heads.items stream.heads stream.tail pulled.tail c.in_ok-pulled.ensures.heads c.in_ok-pulled.ensures.tail
    ∙ c.in_ok-stream.ensures.made
    ∙ started goal_run goal_run (terms_of c.in_ok-env.env) (means c.in_ok-none.none) (means c.in_ok-store.store) refl c.in_ok-env.ensures c.in_ok-none.ensures c.in_ok-store.ensures

pub returns-clause-room : goal.returns-clause-room
returns-clause-room g c =
    let means = g.St.Store.meaning in
    let program = c.args.program.now in
    let stream = c.in_ok-stream.stream in
    let pulled = c.in_ok-pulled.pulled in
    start-room (programs.meaning program) (programs.goals program) c.args.goal (means c.in_ok-none.none) (means c.in_ok-store.store) (map means stream.heads) (g.N.Nodes.table c.run_goal.new.nodes).tree stream.tail pulled.tail
    c.requires.table.small c.in_ok-none.ensures c.in_ok-store.ensures c.in_ok-stream.ensures.fits.tail c.in_ok-pulled.ensures.tail

pub returns-in_err-stream-clause-grows : goal.returns-in_err-stream-clause-grows
returns-in_err-stream-clause-grows g c = adds_grow (g.N.Nodes.table c.args.nodes.now) (g.N.Nodes.table c.run_goal.new.nodes) c.run_goal.ensures.adds

pub returns-in_err-pulled-clause-grows : goal.returns-in_err-pulled-clause-grows
returns-in_err-pulled-clause-grows g c = adds_grow (g.N.Nodes.table c.args.nodes.now) (g.N.Nodes.table c.run_goal.new.nodes) c.run_goal.ensures.adds

pub returns-clause-grows : goal.returns-clause-grows
returns-clause-grows g c = adds_grow (g.N.Nodes.table c.args.nodes.now) (g.N.Nodes.table c.run_goal.new.nodes) c.run_goal.ensures.adds
