-- What is left passes exactly where all do.
use Rattle.std.proofs.Common.{◌≡◌, drop, map, ◌-◌}
use Rattle.kan_model.specs.Answers.InForm.{ascends, tag_before}
use Rattle.reify.specs.Meaning.{absence}
use Rattle.answer_reading.proofs.ordering.do_tags_ascend.Given as goal

abbrev pub invariant-loop-at : goal.invariant-loop-at
invariant-loop-at l = ascends (tag_before l.names) (map absence l.absences) ≡ ascends (tag_before l.names) (map absence (drop (l.at - 1) l.absences))
