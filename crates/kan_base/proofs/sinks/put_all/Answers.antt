use Rattle.std.proofs.Common.{rules}
use Rattle.kan_base.proofs.WriteLemmas.{Appends-more}
use Rattle.kan_base.proofs.sinks.put_all.Goals as goal

pub loop-done-preserved : goal.loop-done-preserved
loop-done-preserved g c =
    record {
      within = search rules;
      put = Appends-more (g.K.Sink.view c.args.sink.now).put (g.K.Sink.view c.loop-done.sink).put (g.K.Sink.view c.write.new.self).put c.loop-done.done c.in-Ok.n c.args.piece.now c.loop-done.invariant.put c.in-Ok.ensures.written;
      count = search rules;
    }
