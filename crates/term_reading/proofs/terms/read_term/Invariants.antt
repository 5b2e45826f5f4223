-- What was read is the front of the term, and what is left is the text of the rest.
use Rattle.std.proofs.Common.{◌≡◌, ◌+◌, ◌≤◌, length, true}
use Rattle.std.specs.List.{list_all}
use Rattle.term_reading.specs.Words.{Moves, is_known}
use Rattle.term_reading.proofs.TermLaws.{LeftTerm}
use Rattle.term_reading.proofs.terms.read_term.Given as goal

abbrev pub invariant-loop-alloc : goal.invariant-loop-alloc
invariant-loop-alloc l =
    LeftTerm l.names l.bytes l.made l.element l.lists l.rest × (l.lists + length l.rest ≤ length l.bytes)
    × Moves l.initial.names (length l.bytes) l.names (length l.rest) × (list_all (is_known l.names) l.made ≡ true)

abbrev pub decreases-loop-alloc : goal.decreases-loop-alloc
decreases-loop-alloc l = length l.rest
