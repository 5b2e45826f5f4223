use Rattle.kan_terms.specs.Terms.{tree}
use Rattle.unify_core.proofs.Steps.WalkSteps.{no_leaf}
use Rattle.diseq.specs.Meaning.{watchers}
use Rattle.diseq.proofs.KeptLaws.{settled_term}
use Rattle.diseq.proofs.watching.Watched.settle_right.Goals as goal

pub returns-in_default : goal.returns-in_default
returns-in_default g c = settled_term (g.B.Bindings.pairs c.args.bindings.now) (tree c.args.term.now) (watchers c.args.self.now) (no_leaf c.args.term.now c.in_default.not-Var)
