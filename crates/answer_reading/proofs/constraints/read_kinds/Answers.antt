-- The three lists stand behind one another.
use Rattle.answer_reading.proofs.ListLaws.{kinds_got}
use Rattle.answer_reading.proofs.constraints.read_kinds.Goals as goal

pub returns-clause-reads : goal.returns-clause-reads
returns-clause-reads c =
    kinds_got c.args.bytes.now c.in_ok-numbers.rest.now c.in_ok-symbols.rest.now c.in_ok-strings.rest.now (record { numbers = c.in_ok-numbers.numbers; symbols = c.in_ok-symbols.symbols; strings = c.in_ok-strings.strings })
    c.in_ok-numbers.ensures.reads c.in_ok-symbols.ensures.reads c.in_ok-strings.ensures.reads
