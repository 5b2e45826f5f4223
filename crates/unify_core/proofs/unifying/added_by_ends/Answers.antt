use Rattle.std.proofs.Common.{◌∷◌, map, option_map, subst, rules}
use Rattle.std.proofs.lemmas.Result.{IfOk-weaker}
use Rattle.kan_terms.specs.Terms.{sides, tree}
use Rattle.unify_core.specs.LentBindings.{waiting_equations}
use Rattle.unify_core.specs.Solutions.{equation}
use Rattle.unify_core.specs.Unifying.{Unifying}
use Rattle.unify_core.proofs.Relation.OneEquation.{same_adds, ends_add}
use Rattle.unify_core.proofs.unifying.added_by_ends.Goals as goal

pub returns-then-is_variable : goal.returns-then-is_variable
returns-then-is_variable g c =
    same_adds (g.B.Bindings.pairs c.args.bindings.now) c.in-Var.var (tree c.args.left.now) (tree c.args.right.now) (map sides c.new.result)
    (search rules) (search rules) (search rules)

pub returns : goal.returns
returns g c =
    IfOk-weaker c.added_in_order.result _ _
    (λ found adds. ends_add (g.B.Bindings.pairs c.args.bindings.now) (tree c.args.left.now) (tree c.args.right.now) c.requires.left_walked c.requires.right_walked (option_map (λ made. map sides made) found)
    (subst (λ ss. Unifying (g.B.Bindings.pairs c.args.bindings.now) (equation (tree c.args.left.now) (tree c.args.right.now) ∷ waiting_equations ss) (option_map (λ made. map sides made) found)) c.new-2.ensures.items adds))
    c.added_in_order.ensures
