use Rattle.std.proofs.Common.{◌≡◌, ◌-◌, ◌≤◌, length}
use Rattle.std.specs.Io.KnownBytes.{Consumes}
use Rattle.kan_base.specs.Views.{HoldsTheSame}
use Rattle.kan_base.proofs.text.read_to_end.Given as goal

-- the text so far was taken from what was left at first
abbrev pub invariant-loop-text : goal.invariant-loop-text
invariant-loop-text g l =
    record {
      taken : Consumes (g.S.Source.view l.fn.source).left (g.S.Source.view l.source).left l.text.items;
      fits : length l.text.items ≤ 1048576;
      buffer : length l.buffer.items ≡ 65536;
      same : HoldsTheSame (g.S.Source.view l.fn.source) (g.S.Source.view l.source);
      count : (g.S.Source.view l.source).faults ≡ (g.S.Source.view l.fn.source).faults;
    }

-- the bytes that may still come
abbrev pub decreases-loop-text : goal.decreases-loop-text
decreases-loop-text g l = 1048576 - length l.text.items
