use Rattle.ground_meaning.proofs.HoldingLaws.{same_spelled}
use Rattle.ground_meaning.proofs.holding.same_values.Goals as goal

pub returns : goal.returns
returns c = same_spelled c.same_marks.result _ _ _ _ c.in_ok-left.ensures c.in_ok-right.ensures c.same_marks.ensures
