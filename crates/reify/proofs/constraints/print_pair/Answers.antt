use Rattle.std.proofs.Common.{string_bytes, rules}
use Rattle.reify.proofs.ShapeLaws.{pair_printed}
use Rattle.reify.proofs.constraints.print_pair.Goals as goal

pub returns : goal.returns
returns c =
    pair_printed c.args.names.now c.args.pair.now.name c.args.pair.now.term (string_bytes c.args.text.now) (string_bytes c.push.new.self) (string_bytes c.print_name.new.text) (string_bytes c.push-2.new.self)
    (string_bytes c.print_shapes.new.text) (string_bytes c.push-3.new.self) c.requires (search rules) c.in_ok-print_name.ensures (search rules) (search rules) (search rules)
