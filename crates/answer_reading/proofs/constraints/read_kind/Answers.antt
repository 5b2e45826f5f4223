-- The names stand behind the word.
use Rattle.std.proofs.Common.{◌≡◌, true}
use Rattle.answer_reading.specs.Listing.{has_fourth}
use Rattle.answer_reading.proofs.ListLaws.{kind_got}
use Rattle.answer_reading.proofs.constraints.read_kind.Goals as goal

pub returns-clause-reads : goal.returns-clause-reads
returns-clause-reads c =
    let some : has_fourth c.args.letter c.args.bytes.now ≡ true = cc in
    kind_got c.args.letter c.args.bytes.now c.behind.result.now c.in_ok-names.names.items c.in_ok-names.rest.now c.behind-2.result.now some c.behind.ensures c.in_ok-names.ensures.reads c.behind-2.ensures
