use Rattle.kan_terms.specs.Terms.{tree}
use Rattle.kan_solving.proofs.SolvingSteps.{stacked-apply}
use Rattle.kan_solving.proofs.solving.substitute.Goals as goal

pub returns-clause-left : goal.returns-clause-left
returns-clause-left c = stacked-apply c.args.last.var (tree c.args.last.by) _ _ c.in_ok-after.ensures
