-- A list after a dot goes on as its elements do, and a prefixed datum as a list of two.
use Rattle.std.proofs.Common.{string_bytes}
use Rattle.sexpr.proofs.PrintLaws.{list_tail, list_tail_falls, prefix_goes_on, prefix_goes_on_falls}
use Rattle.sexpr.proofs.printer.print_tail.Goals as goal

pub returns-in_ok-push-in-List-clause-printed : goal.returns-in_ok-push-in-List-clause-printed
returns-in_ok-push-in-List-clause-printed c = list_tail c.args.names.now c.args.datum.now c.in-List.items c.in-List.last c.as_slice.result c.last_datum.result (string_bytes c.args.text.now) c.args.works.now.items c.push.new.self.items c.in-List.is c.as_slice.ensures c.last_datum.ensures c.in_ok-push-in-List.ensures.items

pub returns-in_ok-push-in-List-clause-falls : goal.returns-in_ok-push-in-List-clause-falls
returns-in_ok-push-in-List-clause-falls c = list_tail_falls c.args.names.now c.args.datum.now c.in-List.items c.in-List.last c.as_slice.result c.last_datum.result c.args.works.now.items c.push.new.self.items c.in-List.is c.as_slice.ensures c.last_datum.ensures c.in_ok-push-in-List.ensures.items

pub returns-in_ok-push-in-Prefixed-3-clause-printed : goal.returns-in_ok-push-in-Prefixed-3-clause-printed
unfolding lib.Utf8.encode
returns-in_ok-push-in-Prefixed-3-clause-printed c = prefix_goes_on c.args.names.now c.args.datum.now c.in-Prefixed.prefix c.in-Prefixed.inner c.get.result (string_bytes c.args.text.now) _ _ (string_bytes c.push-in-Prefixed-2.new.self) c.name_of.result.now c.args.works.now.items c.push-in-Prefixed-3.new.self.items c.in-Prefixed.is c.get.ensures c.name_of.ensures c.in_ok-push-in-Prefixed.ensures.bytes c.in_ok-push_str-in-Prefixed.ensures.bytes c.in_ok-push-in-Prefixed-2.ensures.bytes c.in_ok-push-in-Prefixed-3.ensures.items

pub returns-in_ok-push-in-Prefixed-3-clause-falls : goal.returns-in_ok-push-in-Prefixed-3-clause-falls
returns-in_ok-push-in-Prefixed-3-clause-falls c = prefix_goes_on_falls c.args.names.now c.args.datum.now c.in-Prefixed.prefix c.in-Prefixed.inner c.get.result c.args.works.now.items c.push-in-Prefixed-3.new.self.items c.in-Prefixed.is c.get.ensures c.in_ok-push-in-Prefixed-3.ensures.items
