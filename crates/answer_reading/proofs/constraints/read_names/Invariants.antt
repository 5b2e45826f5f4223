-- What was read is the front of the names.
use Rattle.std.proofs.Common.{◌≤◌, length}
use Rattle.answer_reading.proofs.ListLaws.{LeftNames}
use Rattle.answer_reading.proofs.constraints.read_names.Given as goal

abbrev pub invariant-loop-rest : goal.invariant-loop-rest
invariant-loop-rest l = LeftNames l.bytes l.names.items l.rest × (length l.rest ≤ length l.bytes)

abbrev pub decreases-loop-rest : goal.decreases-loop-rest
decreases-loop-rest l = length l.rest
