use Rattle.std.proofs.Common.{◌≡◌, drop, map}
use Rattle.std.specs.List.{list_all}
use Rattle.reify.specs.Meaning.{absence}
use Rattle.answer_reading.specs.Marks.{lent_lists, absence_met}
use Rattle.answer_reading.proofs.meeting.are_absences_met.Given as goal

abbrev pub invariant-loop-kept : goal.invariant-loop-kept
invariant-loop-kept l = list_all (absence_met (lent_lists l.values)) (map absence l.absences) ≡ list_all (absence_met (lent_lists l.values)) (map absence (drop l.kept-index l.absences))
