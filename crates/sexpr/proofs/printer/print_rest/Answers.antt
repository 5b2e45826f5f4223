-- A list goes on as far as its next element.
use Rattle.std.proofs.Common.{string_bytes}
use Rattle.sexpr.proofs.PrintLaws.{list_goes_on, list_goes_on_falls, last_behind, last_behind_falls}
use Rattle.sexpr.proofs.printer.print_rest.Goals as goal

pub returns-in-Some-clause-printed : goal.returns-in-Some-clause-printed
unfolding lib.Utf8.encode
returns-in-Some-clause-printed c = list_goes_on c.args.names.now c.args.items c.in-Some.rest c.in-Some.first c.args.last (string_bytes c.args.text.now) (string_bytes c.push.new.self) c.args.works.now.items _ c.push-in-Some-2.new.self.items c.in-Some.ensures.cases.0 c.in_ok-push.ensures.bytes c.in_ok-push-2.ensures.items c.in_ok-push-3.ensures.items

pub returns-in-Some-clause-falls : goal.returns-in-Some-clause-falls
returns-in-Some-clause-falls c = list_goes_on_falls c.args.names.now c.args.items c.in-Some.rest c.in-Some.first c.args.last c.args.works.now.items _ c.push-in-Some-2.new.self.items c.in-Some.ensures.cases.0 c.in_ok-push-2.ensures.items c.in_ok-push-3.ensures.items

pub returns-in_ok-push-4-clause-printed : goal.returns-in_ok-push-4-clause-printed
returns-in_ok-push-4-clause-printed c = last_behind c.args.names.now c.args.items c.in-Some-last.datum c.args.last (string_bytes c.args.text.now) c.args.works.now.items c.push-in-Some-last.new.self.items c.in_default.ensures.cases c.in-Some-last.is c.in_ok-push-4.ensures.items

pub returns-in_ok-push-4-clause-falls : goal.returns-in_ok-push-4-clause-falls
returns-in_ok-push-4-clause-falls c = last_behind_falls c.args.names.now c.args.items c.in-Some-last.datum c.args.last c.args.works.now.items c.push-in-Some-last.new.self.items c.in_default.ensures.cases c.in-Some-last.is c.in_ok-push-4.ensures.items
