-- A prefixed datum is printed as a list of two.
use Rattle.std.proofs.Common.{string_bytes}
use Rattle.sexpr.proofs.PrintLaws.{prefix_opens, prefix_opens_falls}
use Rattle.sexpr.proofs.printer.print_datum.Goals as goal

pub returns-in_ok-push-in-Prefixed-4-clause-printed : goal.returns-in_ok-push-in-Prefixed-4-clause-printed
unfolding lib.Utf8.encode
returns-in_ok-push-in-Prefixed-4-clause-printed c = prefix_opens c.args.names.now c.args.datum.now c.in-Prefixed.prefix c.in-Prefixed.inner c.get.result (string_bytes c.args.text.now) _ _ (string_bytes c.push-in-Prefixed.new.self) c.name_of.result.now c.args.works.now.items _ c.push-in-Prefixed-3.new.self.items c.in-Prefixed.is c.get.ensures c.name_of.ensures c.in_ok-push-in-Prefixed.ensures.bytes c.in_ok-push_str-in-Prefixed.ensures.bytes c.in_ok-push-in-Prefixed-2.ensures.bytes c.in_ok-push-in-Prefixed-3.ensures.items c.in_ok-push-in-Prefixed-4.ensures.items

pub returns-in_ok-push-in-Prefixed-4-clause-falls : goal.returns-in_ok-push-in-Prefixed-4-clause-falls
returns-in_ok-push-in-Prefixed-4-clause-falls c = prefix_opens_falls c.args.names.now c.args.datum.now c.in-Prefixed.prefix c.in-Prefixed.inner c.get.result c.args.works.now.items _ c.push-in-Prefixed-3.new.self.items c.in-Prefixed.is c.get.ensures c.in_ok-push-in-Prefixed-3.ensures.items c.in_ok-push-in-Prefixed-4.ensures.items
