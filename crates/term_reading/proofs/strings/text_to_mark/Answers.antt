-- Each byte that is read stands before those that are left.
use Rattle.std.proofs.Common.{◌≡◌, ◌<◌, true, false, length, arith}
use Rattle.term_reading.specs.Strings.{at_mark}
use Rattle.term_reading.proofs.StringLaws.{behind_shorter, text_ends, text_goes_on}
use Rattle.term_reading.proofs.strings.text_to_mark.Goals as goal

pub loop-text-preserved : goal.loop-text-preserved
loop-text-preserved c =
    let some : at_mark c.loop-text.rest.now ≡ false = cc in
    let less : length c.behind_byte-rest.result.now < length c.loop-text.rest.now = behind_shorter c.loop-text.rest.now c.behind_byte-rest.result.now some c.behind_byte-rest.ensures in (
      text_goes_on c.args.bytes.now c.loop-text.text.items c.loop-text.rest.now c.push.new.self.items c.behind_byte-rest.result.now c.front_byte.result some c.front_byte.ensures c.in_ok-push.ensures.items c.behind_byte-rest.ensures c.loop-text.invariant.0,
      omega (arith, less, c.loop-text.invariant.1),
    )

pub returns-clause-reads : goal.returns-clause-reads
returns-clause-reads c =
    let none : at_mark c.loop-text.rest.now ≡ true = cc in
    text_ends c.args.bytes.now c.loop-text.text.items c.loop-text.rest.now none c.loop-text.invariant.0
