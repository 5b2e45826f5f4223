use Rattle.std.proofs.Common.{map, option_map}
use Rattle.std.proofs.lemmas.Result.{IfOk-weaker}
use Rattle.kan_terms.specs.Terms.{sides, tree}
use Rattle.unify_core.specs.Solutions.{equation}
use Rattle.unify_core.proofs.Relation.OneEquation.{adds_alone}
use Rattle.unify_core.proofs.Steps.WalkSteps.{walked_end}
use Rattle.unify_core.proofs.unifying.would_add.Goals as goal

pub returns : goal.returns
returns g c =
    IfOk-weaker c.added_by_ends.result _ _
    (λ found adds. adds_alone (g.B.Bindings.pairs c.args.bindings.now) (equation (tree c.args.left.now) (tree c.args.right.now)) (option_map (λ made. map sides made) found)
    (rw (← c.walk-left_end.ensures, ← c.walk-right_end.ensures) adds)) c.added_by_ends.ensures

pub added_by_ends-requires-clause-left_walked : goal.added_by_ends-requires-clause-left_walked
added_by_ends-requires-clause-left_walked g c =
    walked_end (g.B.Bindings.pairs c.args.bindings.now) c.requires (tree c.args.left.now) (tree c.walk-left_end.result.now) c.walk-left_end.ensures

pub added_by_ends-requires-clause-right_walked : goal.added_by_ends-requires-clause-right_walked
added_by_ends-requires-clause-right_walked g c =
    walked_end (g.B.Bindings.pairs c.args.bindings.now) c.requires (tree c.args.right.now) (tree c.walk-right_end.result.now) c.walk-right_end.ensures
