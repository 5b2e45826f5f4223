-- Each name that is read stands before those that are left.
use Rattle.std.proofs.Common.{◌≡◌, ◌<◌, ◌≤◌, true, false, length, arith}
use Rattle.answer_reading.specs.Listing.{begins}
use Rattle.answer_reading.proofs.ListLaws.{begins_some, names_end, names_go_on, past_shorter}
use Rattle.answer_reading.proofs.constraints.read_names.Goals as goal

pub loop-rest-preserved : goal.loop-rest-preserved
loop-rest-preserved c =
    let l = c.loop-rest in
    let more : begins 95 l.rest.now ≡ true = cc in
    let less : length c.read_name-name.result.1.now < length l.rest.now = c.read_name-name.ensures.shorter (begins_some 95 l.rest.now more) in
    let past : length c.past_space-rest.result.now ≤ length c.read_name-name.result.1.now = past_shorter c.read_name-name.result.1.now c.past_space-rest.result.now c.past_space-rest.ensures in (
      names_go_on c.args.bytes.now l.names.items c.push.new.self.items l.rest.now c.read_name-name.result.1.now c.past_space-rest.result.now c.read_name-name.result.0 more c.read_name-name.ensures.reads c.in_ok-push.ensures.items c.past_space-rest.ensures l.invariant.0,
      omega (arith, less, past, l.invariant.1),
    )

pub returns-clause-reads : goal.returns-clause-reads
returns-clause-reads c =
    let none : begins 95 c.loop-rest.rest.now ≡ false = cc in
    names_end c.args.bytes.now c.loop-rest.names.items c.loop-rest.rest.now none c.loop-rest.invariant.0
