use Rattle.std.proofs.Common.{◌≡◌, drop}
use Rattle.std.specs.List.{list_all}
use Rattle.answer_reading.specs.Marks.{lent_lists, type_met}
use Rattle.answer_reading.proofs.meeting.have_type.Given as goal

abbrev pub invariant-loop-name : goal.invariant-loop-name
invariant-loop-name l = list_all (type_met (lent_lists l.values) l.kind) l.names ≡ list_all (type_met (lent_lists l.values) l.kind) (drop l.name-index l.names)
