-- What is printed and what is left to print are the text of the datum.
use Rattle.std.proofs.Common.{◌≡◌, ◌++◌, string_bytes}
use Rattle.kan_grammar.specs.Data.Printed.{datum_text}
use Rattle.sexpr.specs.WrittenForms.{written_form}
use Rattle.sexpr.specs.Printing.{works_text, works_cost}
use Rattle.sexpr.proofs.printer.print.Given as goal

abbrev pub invariant-loop-work : goal.invariant-loop-work
invariant-loop-work l = string_bytes l.text ++ works_text l.names l.works.items ≡ datum_text (written_form l.names l.datum)

abbrev pub decreases-loop-work : goal.decreases-loop-work
decreases-loop-work l = works_cost l.names l.works.items
