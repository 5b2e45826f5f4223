-- Each disequality that is read stands before those that are left.
use Rattle.std.proofs.Common.{◌≡◌, true, false, length}
use Rattle.std.specs.List.{list_all}
use Rattle.answer_reading.specs.Listing.{has_fourth, is_pair_known}
use Rattle.answer_reading.proofs.KnownLaws.{differences_further}
use Rattle.term_reading.proofs.KnownTerms.{one_known}
use Rattle.answer_reading.proofs.ListLaws.{differences_end, differences_go_on}
use Rattle.term_reading.proofs.TermLaws.{moves_past}
use Rattle.answer_reading.proofs.constraints.read_differences.Goals as goal

pub loop-alloc-preserved : goal.loop-alloc-preserved
loop-alloc-preserved c =
    let l = c.loop-alloc in
    let more : has_fourth 47 l.rest.now ≡ true = cc in
    let goes = c.in_ok-pairs.ensures.moves.goes_on in (
      differences_go_on l.names c.read_pairs.new.names c.args.bytes.now l.rest.now c.behind.result.now c.in_ok-pairs.left.now c.behind-rest.result.now l.differences.items c.push.new.self.items c.in_ok-pairs.pairs more goes c.behind.ensures c.in_ok-pairs.ensures.reads
          c.in_ok-push.ensures.items c.behind-rest.ensures l.invariant.0,
      moves_past c.args.names.now l.names c.read_pairs.new.names (length c.args.bytes.now) 7 2 l.rest.now c.behind.result.now c.in_ok-pairs.left.now c.behind-rest.result.now l.invariant.1 c.behind.ensures c.in_ok-pairs.ensures.moves c.behind-rest.ensures,
      one_known (list_all (is_pair_known c.read_pairs.new.names)) l.differences.items c.push.new.self.items c.in_ok-pairs.pairs c.in_ok-push.ensures.items (differences_further l.names c.read_pairs.new.names goes l.differences.items l.invariant.2) c.in_ok-pairs.ensures.known,
    )

pub returns-clause-reads : goal.returns-clause-reads
returns-clause-reads c =
    let none : has_fourth 47 c.loop-alloc.rest.now ≡ false = cc in
    differences_end c.loop-alloc.names c.args.bytes.now c.loop-alloc.rest.now c.loop-alloc.differences.items none c.loop-alloc.invariant.0
