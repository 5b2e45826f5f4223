use Rattle.stream_core.proofs.Paths.ForceLaws.{around-binds, bound-force, swapped-force, no-around}
use Rattle.stream_core.proofs.forcing.go_around.Goals as goal

pub bind_with-requires-clause-is : goal.bind_with-requires-clause-is
bind_with-requires-clause-is g c =
    (around-binds (g.N.Nodes.table c.args.nodes.now) c.args.program.now g.St.Store.meaning c.requires.table c.args.thunk c.in-Bind.goal c.in-Bind.env _ c.args.inside c.in-Bind.is c.requires.may c.requires.inside).is

pub bind_with-requires-clause-room : goal.bind_with-requires-clause-room
bind_with-requires-clause-room g c =
    (around-binds (g.N.Nodes.table c.args.nodes.now) c.args.program.now g.St.Store.meaning c.requires.table c.args.thunk c.in-Bind.goal c.in-Bind.env _ c.args.inside c.in-Bind.is c.requires.may c.requires.inside).room

pub bind_with-requires-clause-below : goal.bind_with-requires-clause-below
bind_with-requires-clause-below g c =
    (around-binds (g.N.Nodes.table c.args.nodes.now) c.args.program.now g.St.Store.meaning c.requires.table c.args.thunk c.in-Bind.goal c.in-Bind.env _ c.args.inside c.in-Bind.is c.requires.may c.requires.inside).below

pub returns-in-Bind-clause-made : goal.returns-in-Bind-clause-made
returns-in-Bind-clause-made g c =
    bound-force (g.N.Nodes.table c.args.nodes.now) c.args.program.now g.St.Store.meaning c.requires.table c.args.thunk c.in-Bind.goal c.in-Bind.env _ c.args.inside _ c.in-Bind.is c.requires.inside c.in_ok-made-in-Bind.ensures.made

pub returns-in-Swap-clause-made : goal.returns-in-Swap-clause-made
returns-in-Swap-clause-made g c =
    swapped-force (g.N.Nodes.table c.args.nodes.now) c.args.program.now g.St.Store.meaning c.requires.table c.args.thunk c.in-Swap.heads c.in-Swap.tail _ c.args.inside _ c.in-Swap.is c.requires.inside c.in_ok-made-in-Swap.ensures.made

pub unreachable-requires : goal.unreachable-requires
unreachable-requires g c = no-around (g.N.Nodes.table c.args.nodes.now) g.St.Store.meaning c.args.thunk c.requires.around c.in_default.not-Swap c.in_default.not-Bind
