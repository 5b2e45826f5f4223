use Rattle.std.proofs.Common.{string_bytes}
use Rattle.std.specs.Prelude.{reverse}
use Rattle.reify.proofs.ShapeLaws.{next_printed}
use Rattle.reify.proofs.printing.print_shapes.Goals as goal

pub loop-shape-preserved : goal.loop-shape-preserved
loop-shape-preserved c =
    next_printed c.args.names.now (string_bytes c.loop-shape.text) (string_bytes c.print_next.new.text) (reverse c.loop-shape.places.items) (reverse c.print_next.new.places.items) c.args.shapes.now
    c.loop-shape.shape-index _ _ c.loop-shape-test.true c.in_ok-print_next.ensures c.loop-shape.invariant
