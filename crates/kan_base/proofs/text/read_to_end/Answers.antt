use Rattle.kan_base.proofs.TextLemmas.{Stops-after}
use Rattle.kan_base.proofs.text.read_to_end.Goals as goal

pub returns-in-Err-clause-stopped : goal.returns-in-Err-clause-stopped
returns-in-Err-clause-stopped g c =
    Stops-after (g.S.Source.view c.args.source.now).left (g.S.Source.view c.loop-text.source).left (g.S.Source.view c.add_piece.new.source).left
    c.loop-text.text.items c.in-Err.stop c.loop-text.invariant.taken c.in-Err.ensures.stopped
