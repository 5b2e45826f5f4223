-- Each pair that is read stands before those that are left.
use Rattle.std.proofs.Common.{◌≡◌, ◌≤◌, true, false, length}
use Rattle.answer_reading.specs.Listing.{begins, is_pair_known}
use Rattle.answer_reading.proofs.KnownLaws.{pairs_further}
use Rattle.term_reading.proofs.KnownTerms.{one_known}
use Rattle.answer_reading.proofs.ListLaws.{pairs_end, pairs_go_on, past_shorter}
use Rattle.term_reading.proofs.TermLaws.{moves_less, moves_on}
use Rattle.answer_reading.proofs.constraints.read_pairs.Goals as goal

pub loop-alloc-preserved : goal.loop-alloc-preserved
loop-alloc-preserved c =
    let l = c.loop-alloc in
    let more : begins 40 l.rest.now ≡ true = cc in
    let goes = c.in_ok-pair.ensures.moves.goes_on in
    let past : length c.past_space-rest.result.now ≤ length c.in_ok-pair.left.now = past_shorter c.in_ok-pair.left.now c.past_space-rest.result.now c.past_space-rest.ensures in (
      pairs_go_on l.names c.read_pair.new.names c.args.bytes.now l.rest.now c.in_ok-pair.left.now c.past_space-rest.result.now l.pairs c.push.new.self c.in_ok-pair.pair more goes c.in_ok-pair.ensures.reads c.in-Ok.ensures.added c.past_space-rest.ensures l.invariant.0,
      moves_less c.args.names.now c.read_pair.new.names (length c.args.bytes.now) (length c.in_ok-pair.left.now) (length c.past_space-rest.result.now)
          (moves_on c.args.names.now l.names c.read_pair.new.names (length c.args.bytes.now) (length l.rest.now) (length c.in_ok-pair.left.now) l.invariant.1 c.in_ok-pair.ensures.moves) past,
      one_known (is_pair_known c.read_pair.new.names) l.pairs c.push.new.self c.in_ok-pair.pair c.in-Ok.ensures.added (pairs_further l.names c.read_pair.new.names goes l.pairs l.invariant.2) c.in_ok-pair.ensures.known,
    )

pub returns-clause-reads : goal.returns-clause-reads
returns-clause-reads c =
    let none : begins 40 c.loop-alloc.rest.now ≡ false = cc in
    pairs_end c.loop-alloc.names c.args.bytes.now c.loop-alloc.rest.now c.loop-alloc.pairs none c.loop-alloc.invariant.0
