use Rattle.std.proofs.Common.{take, drop, sym, take-append-drop}
use Rattle.std.proofs.KnownBytes.{Appends-kept}
use Rattle.kan_base.proofs.std_streams.write_some.Goals as goal

pub returns-then-is_err-clause-front : goal.returns-then-is_err-clause-front
returns-then-is_err-clause-front g c =
    let contents = g.W.Write.contents in
    let piece = c.args.piece.now in
    record {
      front = take c.in-Ok.n piece;
      rest = drop c.in-Ok.n piece;
      parts = sym (take-append-drop c.in-Ok.n piece);
      put = Appends-kept (contents c.args.writer.now) (contents c.write.new.self) (contents c.flush.new.self) (take c.in-Ok.n piece) c.in-Ok.ensures.bytes c.flush.ensures.bytes;
    }
