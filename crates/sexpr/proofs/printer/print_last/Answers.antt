-- The dot goes before the last part.
use Rattle.std.proofs.Common.{string_bytes}
use Rattle.sexpr.proofs.PrintLaws.{last_prints, last_falls}
use Rattle.sexpr.proofs.printer.print_last.Goals as goal

pub returns-clause-printed : goal.returns-clause-printed
returns-clause-printed c = last_prints c.args.names.now c.args.datum (string_bytes c.args.text.now) (string_bytes c.push_str.new.self) c.args.works.now.items c.push.new.self.items c.requires c.in_ok-push_str.ensures.bytes c.in_ok-push.ensures.items

pub returns-clause-falls : goal.returns-clause-falls
returns-clause-falls c = last_falls c.args.names.now c.args.datum c.args.works.now.items c.push.new.self.items c.in_ok-push.ensures.items
