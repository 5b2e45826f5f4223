-- Each shape that is read stands before those that are left.
use Rattle.std.proofs.Common.{◌≡◌, ◌<◌, true, false, length, sym, ap, ◌∙◌}
use Rattle.term_reading.specs.Reading.{is_unfinished, unclosed_after}
use Rattle.term_reading.specs.Words.{is_known}
use Rattle.term_reading.proofs.KnownTerms.{one_known, terms_further}
use Rattle.term_reading.proofs.TermLaws.{moves_on, unclosed_bound, unfinished_ends, unfinished_lists, unfinished_some, term_ends, term_goes_on}
use Rattle.term_reading.proofs.terms.read_term.Goals as goal

pub loop-alloc-preserved : goal.loop-alloc-preserved
loop-alloc-preserved c =
    let l = c.loop-alloc in
    let goes_on = c.in_ok-shape.ensures.moves.goes_on in
    let more : is_unfinished l.element l.lists l.rest.now ≡ true = cc in
    let less : length c.in_ok-shape.left.now < length l.rest.now = c.in_ok-shape.ensures.shorter (unfinished_some l.element l.lists l.rest.now more) in (
      term_goes_on l.names c.read_shape.new.names c.args.bytes.now l.rest.now c.in_ok-shape.left.now l.made c.push.new.self l.element c.is_pair-element.result l.lists c.unclosed_after-lists.result c.in_ok-shape.shape
          (unfinished_lists l.element l.lists l.rest.now more) goes_on c.in_ok-shape.ensures.reads c.in-Ok.ensures.added c.is_pair-element.ensures (c.unclosed_after-lists.ensures ∙ ap (unclosed_after l.lists l.element) (c.is_pair.ensures ∙ sym c.is_pair-element.ensures)) l.invariant.0,
      unclosed_bound l.lists c.unclosed_after-lists.result l.element _ l.rest.now c.in_ok-shape.left.now c.args.bytes.now c.unclosed_after-lists.ensures l.invariant.1 less,
      moves_on c.args.names.now l.names c.read_shape.new.names (length c.args.bytes.now) (length l.rest.now) (length c.in_ok-shape.left.now) l.invariant.2 c.in_ok-shape.ensures.moves,
      one_known (is_known c.read_shape.new.names) l.made c.push.new.self c.in_ok-shape.shape c.in-Ok.ensures.added (terms_further l.names c.read_shape.new.names goes_on l.made l.invariant.3) c.in_ok-shape.ensures.known,
    )

pub returns-clause-reads : goal.returns-clause-reads
returns-clause-reads c =
    let none : is_unfinished c.loop-alloc.element c.loop-alloc.lists c.loop-alloc.rest.now ≡ false = cc in
    term_ends c.loop-alloc.names c.args.bytes.now c.loop-alloc.made c.loop-alloc.element c.loop-alloc.lists c.loop-alloc.rest.now c.loop-alloc.invariant.0 (unfinished_ends c.loop-alloc.element c.loop-alloc.lists c.loop-alloc.rest.now none)
