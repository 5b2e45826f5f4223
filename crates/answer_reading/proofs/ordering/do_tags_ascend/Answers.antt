-- The last absence has none behind it.
use Rattle.kan_model.specs.Answers.InForm.{tag_before}
use Rattle.reify.specs.Meaning.{absence}
use Rattle.answer_reading.proofs.LoopLaws.{mapped_end}
use Rattle.answer_reading.proofs.ordering.do_tags_ascend.Goals as goal

pub returns : goal.returns
returns c = mapped_end (tag_before c.args.names.now) absence c.args.absences.now c.loop-at.at c.loop-at-test.false c.loop-at.invariant
