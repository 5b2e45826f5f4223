use Rattle.std.proofs.Common.{◌≡◌, drop}
use Rattle.std.specs.List.{list_all}
use Rattle.answer_reading.specs.Marks.{lent_lists, tag_met}
use Rattle.answer_reading.proofs.meeting.is_tag_absent.Given as goal

abbrev pub invariant-loop-name : goal.invariant-loop-name
invariant-loop-name l = list_all (tag_met (lent_lists l.values) l.tag) l.names ≡ list_all (tag_met (lent_lists l.values) l.tag) (drop l.name-index l.names)
