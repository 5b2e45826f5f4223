-- Each step prints what it takes from the stack.
use Rattle.std.proofs.Common.{string_bytes}
use Rattle.kan_grammar.specs.Data.Printed.{datum_text}
use Rattle.sexpr.specs.WrittenForms.{written_form}
use Rattle.sexpr.proofs.PrintLaws.{work_prints, work_falls}
use Rattle.sexpr.proofs.printer.print.Goals as goal

pub loop-work-smaller : goal.loop-work-smaller
loop-work-smaller c = work_falls c.args.names.now c.loop-work.works.items c.pop.new.self.items c.print_work.new.works.items c.in-Some.work c.in-Some.ensures.items c.in_ok-print_work.ensures.falls

pub loop-work-preserved : goal.loop-work-preserved
loop-work-preserved c = work_prints c.args.names.now (string_bytes c.loop-work.text) (string_bytes c.print_work.new.text) (datum_text (written_form c.args.names.now c.args.datum.now)) c.loop-work.works.items c.pop.new.self.items c.print_work.new.works.items c.in-Some.work c.in-Some.ensures.items c.in_ok-print_work.ensures.printed c.loop-work.invariant
