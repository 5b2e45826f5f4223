-- A string has one number in all tables that go on.
use Rattle.std.proofs.Common.{ap, length}
use Rattle.reify.specs.declared.shaping.Shape.TheVariants.{Str}
use Rattle.term_reading.proofs.StringLaws.{no_text, string_is}
use Rattle.term_reading.proofs.WordLaws.{below_of, number_below}
use Rattle.term_reading.proofs.strings.string_shape.Goals as goal

pub returns-in_ok-intern_string-in-Ok-clause-reads : goal.returns-in_ok-intern_string-in-Ok-clause-reads
returns-in_ok-intern_string-in-Ok-clause-reads c = λ table on s low is.
    ap Str (string_is c.intern_string.new.self table c.args.bytes.now c.in-Ok.text.now _ s on c.in_ok-intern_string-in-Ok.ensures.number c.in-Ok.ensures.cases.0 (below_of s (length table.strings) low) is)

pub returns-in_ok-intern_string-in-Ok-clause-known : goal.returns-in_ok-intern_string-in-Ok-clause-known
returns-in_ok-intern_string-in-Ok-clause-known c = number_below c.intern_string.new.self.strings c.in-Ok.text.now _ c.in_ok-intern_string-in-Ok.ensures.number

pub returns-in-Err-clause-reads : goal.returns-in-Err-clause-reads
returns-in-Err-clause-reads c = λ table on s low is. absurd (no_text c.args.names.now table c.args.bytes.now s on c.in-Err.ensures.cases.0 (below_of s (length table.strings) low) is)
