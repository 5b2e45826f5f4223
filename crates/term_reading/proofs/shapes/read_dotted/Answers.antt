-- The close stands behind the last part.
use Rattle.term_reading.proofs.ShapeLaws.{dotted_got}
use Rattle.term_reading.proofs.shapes.read_dotted.Goals as goal

pub returns-clause-reads : goal.returns-clause-reads
returns-clause-reads c = dotted_got c.read_element.new.names c.args.bytes.now c.in_ok-shape.rest.now c.behind.result.now c.in_ok-shape.shape c.in_ok-shape.ensures.reads c.behind.ensures
