-- What was read is the front of the disequalities.
use Rattle.std.proofs.Common.{◌≡◌, length, true}
use Rattle.std.specs.List.{list_all}
use Rattle.term_reading.specs.Words.{Moves}
use Rattle.answer_reading.specs.Listing.{is_pair_known}
use Rattle.answer_reading.proofs.ListLaws.{LeftDifferences}
use Rattle.answer_reading.proofs.constraints.read_differences.Given as goal

abbrev pub invariant-loop-alloc : goal.invariant-loop-alloc
invariant-loop-alloc l =
    LeftDifferences l.names l.bytes l.differences.items l.rest × Moves l.initial.names (length l.bytes) l.names (length l.rest)
    × (list_all (list_all (is_pair_known l.names)) l.differences.items ≡ true)

abbrev pub decreases-loop-alloc : goal.decreases-loop-alloc
decreases-loop-alloc l = length l.rest
