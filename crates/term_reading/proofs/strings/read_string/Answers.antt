-- Behind the first mark stand the bytes of the string.
use Rattle.std.proofs.Common.{ap, drop, length, ◌∙◌}
use Rattle.term_reading.proofs.StringLaws.{quoted_bytes}
use Rattle.term_reading.proofs.WordLaws.{below_of}
use Rattle.term_reading.proofs.strings.read_string.Goals as goal

pub returns-clause-reads : goal.returns-clause-reads
returns-clause-reads c = λ table on s more low is.
    let read = c.in_ok-text.ensures.reads _ more (quoted_bytes table s c.args.bytes.now more (below_of s (length table.strings) low) is) in
    (c.in_ok-shape.ensures.reads table on s low (c.deref.ensures.value ∙ read.0), c.behind.ensures ∙ ap (drop 1) read.1)
