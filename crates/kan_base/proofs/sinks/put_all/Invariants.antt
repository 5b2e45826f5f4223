use Rattle.std.proofs.Common.{◌≡◌, ◌-◌, ◌≤◌, length, take}
use Rattle.std.specs.Io.KnownBytes.{Appends}
use Rattle.kan_base.proofs.sinks.put_all.Given as goal

-- the front that is done was put, and no call failed
abbrev pub invariant-loop-done : goal.invariant-loop-done
invariant-loop-done g l =
    record {
      within : l.done ≤ length l.piece;
      put : Appends (g.K.Sink.view l.fn.sink).put (g.K.Sink.view l.sink).put (take l.done l.piece);
      count : (g.K.Sink.view l.sink).faults ≡ (g.K.Sink.view l.fn.sink).faults;
    }

-- the bytes that are still to be put
abbrev pub decreases-loop-done : goal.decreases-loop-done
decreases-loop-done g l = length l.piece - l.done
