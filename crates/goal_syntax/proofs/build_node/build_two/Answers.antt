use Rattle.goal_syntax.proofs.Building.TableLaws.{grows_on}
use Rattle.goal_syntax.proofs.build_node.build_two.Goals as goal

pub returns-clause-left : goal.returns-clause-left
returns-clause-left c = c.in_ok-second.ensures.grows.templates _ _ c.in_ok-first.ensures.made

pub returns-clause-grows : goal.returns-clause-grows
returns-clause-grows c = grows_on _ _ _ c.in_ok-first.ensures.grows c.in_ok-second.ensures.grows
