-- What was read is the front of the text that is printed.
use Rattle.std.proofs.Common.{◌≤◌, length}
use Rattle.term_reading.proofs.StringLaws.{LeftText}
use Rattle.term_reading.proofs.strings.text_to_mark.Given as goal

abbrev pub invariant-loop-text : goal.invariant-loop-text
invariant-loop-text l = LeftText l.bytes l.text.items l.rest × (length l.rest ≤ length l.bytes)

abbrev pub decreases-loop-text : goal.decreases-loop-text
decreases-loop-text l = length l.rest
