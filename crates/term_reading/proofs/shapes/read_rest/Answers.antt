-- A point stands before the last part.
use Rattle.std.proofs.Common.{sym}
use Rattle.term_reading.proofs.ShapeLaws.{dot_got}
use Rattle.term_reading.proofs.WordLaws.{if_ok}
use Rattle.term_reading.proofs.shapes.read_rest.Goals as goal

pub returns-in-Dot-clause-reads : goal.returns-in-Dot-clause-reads
returns-in-Dot-clause-reads c = if_ok c.read_dotted.result (λ read got. dot_got c.read_dotted.new.names c.args.bytes.now c.behind-in-Dot.result.now read.1.now read.0 (sym c.in-Dot.ensures) c.behind-in-Dot.ensures got) c.read_dotted.ensures.reads
