use Rattle.std.proofs.Common.{◌≡◌, arith, length}
use Rattle.kan_model.specs.Programs.Closed as programs
use Rattle.text_tests.proofs.SearchLaws.{only_closed}
use Rattle.text_tests.proofs.searches.searched_once.Goals as goal

pub searched-requires-clause-closed : goal.searched-requires-clause-closed
searched-requires-clause-closed g c =
    let one : length c.args.made.now.queries ≡ 1 = omega (arith, c.len.ensures, c.if-len-ne1.false) in
    only_closed (programs.tables c.args.made.now.program) c.args.made.now.queries c.in-Some.query.now one c.in-Some.ensures.item c.requires.closed
