-- What was read is the front of the absences.
use Rattle.std.proofs.Common.{◌≡◌, length, map, true}
use Rattle.std.specs.List.{list_all}
use Rattle.reify.specs.Meaning.{absence}
use Rattle.term_reading.specs.Words.{Moves}
use Rattle.answer_reading.specs.Listing.{is_absence_known}
use Rattle.answer_reading.proofs.ListLaws.{LeftAbsences}
use Rattle.answer_reading.proofs.constraints.read_absences.Given as goal

abbrev pub invariant-loop-rest : goal.invariant-loop-rest
invariant-loop-rest l =
    LeftAbsences l.names l.bytes (map absence l.made.items) l.rest × Moves l.initial.names (length l.bytes) l.names (length l.rest)
    × (list_all (is_absence_known l.names) l.made.items ≡ true)

abbrev pub decreases-loop-rest : goal.decreases-loop-rest
decreases-loop-rest l = length l.rest
