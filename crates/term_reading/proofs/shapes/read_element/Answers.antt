-- Each element begins in its own way.
use Rattle.std.proofs.Common.{sym}
use Rattle.term_reading.proofs.ShapeLaws.{hash_got, mark_got, begun_got, word_shape_got}
use Rattle.term_reading.proofs.WordLaws.{if_ok}
use Rattle.term_reading.proofs.shapes.read_element.Goals as goal

pub returns-in-Bracket-clause-reads : goal.returns-in-Bracket-clause-reads
returns-in-Bracket-clause-reads c = begun_got c.args.names.now c.args.bytes.now c.behind.result.now _ _ (sym c.in-Bracket.ensures) c.behind.ensures c.list_begun.ensures.reads

pub returns-in-Hash-clause-reads : goal.returns-in-Hash-clause-reads
returns-in-Hash-clause-reads c = hash_got c.args.names.now c.args.bytes.now c.behind-in-Hash.result.now _ _ (sym c.in-Hash.ensures) c.behind-in-Hash.ensures c.truth.ensures.reads

pub returns-in-Mark-clause-reads : goal.returns-in-Mark-clause-reads
returns-in-Mark-clause-reads c =
    if_ok c.read_string.result (λ read got. mark_got c.read_string.new.names c.args.bytes.now c.behind-in-Mark.result.now read.1.now read.0 (sym c.in-Mark.ensures) c.behind-in-Mark.ensures got) c.read_string.ensures.reads

pub returns-in-Word-clause-reads : goal.returns-in-Word-clause-reads
returns-in-Word-clause-reads c = if_ok c.read_word.result (λ read got. word_shape_got c.read_word.new.names c.args.bytes.now read.1.now read.0 (sym c.in-Word.ensures) got) c.read_word.ensures.reads
