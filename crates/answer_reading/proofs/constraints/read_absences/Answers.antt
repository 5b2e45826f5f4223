-- Each absence that is read stands before those that are left.
use Rattle.std.proofs.Common.{◌≡◌, true, false, length, map}
use Rattle.reify.specs.Meaning.{absence}
use Rattle.answer_reading.specs.Listing.{has_fourth, is_absence_known}
use Rattle.answer_reading.proofs.KnownLaws.{absences_further}
use Rattle.answer_reading.proofs.ListLaws.{absences_end, absences_go_on, some_known}
use Rattle.term_reading.proofs.TermLaws.{moves_on}
use Rattle.answer_reading.proofs.constraints.read_absences.Goals as goal

pub loop-rest-preserved : goal.loop-rest-preserved
loop-rest-preserved c =
    let l = c.loop-rest in
    let more : has_fourth 98 l.rest.now ≡ true = cc in
    let goes = c.in_ok-kept.ensures.moves.goes_on in (
      absences_go_on l.names c.read_absence.new.names c.args.bytes.now l.rest.now c.in_ok-kept.left.now l.made.items c.add.new.made.items c.in_ok-kept.kept more goes c.in_ok-kept.ensures.reads c.in_ok-add.ensures l.invariant.0,
      moves_on c.args.names.now l.names c.read_absence.new.names (length c.args.bytes.now) (length l.rest.now) (length c.in_ok-kept.left.now) l.invariant.1 c.in_ok-kept.ensures.moves,
      some_known (is_absence_known c.read_absence.new.names) l.made.items c.add.new.made.items c.in_ok-kept.kept c.in_ok-add.ensures (absences_further l.names c.read_absence.new.names goes l.made.items l.invariant.2) c.in_ok-kept.ensures.known,
    )

pub returns-clause-reads : goal.returns-clause-reads
returns-clause-reads c =
    let none : has_fourth 98 c.loop-rest.rest.now ≡ false = cc in
    absences_end c.loop-rest.names c.args.bytes.now c.loop-rest.rest.now (map absence c.loop-rest.made.items) none c.loop-rest.invariant.0
