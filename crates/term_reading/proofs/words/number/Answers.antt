-- The bytes of a number are a text.
use Rattle.std.proofs.Common.{sym, subst, ◌∙◌}
use Rattle.std.specs.Str.{IsUtf8}
use Rattle.term_reading.proofs.WordLaws.{number_utf8}
use Rattle.term_reading.proofs.words.number.Goals as goal

pub returns-in-Ok-clause-reads : goal.returns-in-Ok-clause-reads
returns-in-Ok-clause-reads c = λ z range is. c.long_number.ensures.reads z range (c.in-Ok.ensures.cases.0 ∙ is)

pub returns-in-Err-clause-reads : goal.returns-in-Err-clause-reads
returns-in-Err-clause-reads c = λ z range is. absurd (c.in-Err.ensures.cases.0 (subst IsUtf8 (sym is) (number_utf8 z range)))
