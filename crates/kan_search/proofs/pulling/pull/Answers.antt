use Rattle.std.proofs.Common.{◌∙◌, ap}
use Rattle.kan_model.specs.Streams.Running as running
use Rattle.kan_search.proofs.StartLaws.{turned-is}
use Rattle.kan_search.proofs.pulling.pull.Goals as goal

pub returns-clause-made : goal.returns-clause-made
returns-clause-made g c =
    let was = g.N.Nodes.table c.args.nodes.now in
    let stream = c.in_ok-stream.stream in
    let pulled = c.in_ok-pulled.pulled in
    turned-is (g.N.Nodes.table c.force_once.new.nodes).tree g.St.Store.meaning pulled.heads.items stream.heads stream.tail pulled.tail c.in_ok-pulled.ensures.heads c.in_ok-pulled.ensures.tail
    ∙ c.in_ok-stream.ensures.force.1
    ∙ ap (λ p. running.force p (was.tree c.args.id)) (c.in_ok-stream.ensures.grows.program ∙ c.requires.table.program)
