-- Behind the first byte are the digits.
use Rattle.std.proofs.Common.{drop, ap, sym, subst, ◌∙◌, arith}
use Rattle.std.specs.Str.{IsUtf8}
use Rattle.term_reading.proofs.WordLaws.{digits_utf8}
use Rattle.term_reading.proofs.words.name_number.Goals as goal

pub returns-in-Ok : goal.returns-in-Ok
returns-in-Ok c = λ n low is. c.short_number.ensures n low (c.in-Ok.ensures.cases.0 ∙ c.behind.ensures ∙ ap (drop 1) is)

pub returns-in-Err : goal.returns-in-Err
returns-in-Err c = λ n low is. absurd (c.in-Err.ensures.cases.0 (subst IsUtf8 (sym (c.behind.ensures ∙ ap (drop 1) is)) (digits_utf8 n (omega (arith, low)))))
