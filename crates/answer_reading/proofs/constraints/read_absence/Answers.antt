-- The tag and the names stand behind the word.
use Rattle.reify.specs.Meaning.{absence}
use Rattle.std.specs.Option.{option_map}
use Rattle.answer_reading.proofs.ListLaws.{absence_got}
use Rattle.answer_reading.proofs.constraints.read_absence.Goals as goal

pub returns-clause-reads : goal.returns-clause-reads
returns-clause-reads c =
    absence_got c.read_word.new.names c.args.bytes.now c.behind.result.now c.in_ok-tag.rest.now c.behind-2.result.now c.in_ok-listed.listed.items c.in_ok-listed.rest.now c.behind-3.result.now c.in_ok-tag.tag
    (option_map absence c.absence_of.result) c.behind.ensures c.in_ok-tag.ensures.reads c.behind-2.ensures c.in_ok-listed.ensures.reads c.behind-3.ensures c.absence_of.ensures.reads
