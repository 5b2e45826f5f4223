use Rattle.std.proofs.Common.{◌≡◌, rules, [], ◌∷◌, map, Some, subst}
use Rattle.kan_terms.specs.Terms.{sides, tree}
use Rattle.unify_core.specs.Solutions.{equation}
use Rattle.unify_core.specs.Unifying.{Unifying}
use Rattle.diseq.proofs.AddLaws.{none_identical, some_always, some_differs}
use Rattle.diseq.proofs.diseqs.Diseqs.add.Goals as goal

pub returns-then-adds_nothing-clause-none : goal.returns-then-adds_nothing-clause-none
returns-then-adds_nothing-clause-none g c =
    let empty : c.in-Some.added ≡ [] = search rules in
    none_identical (g.B.Bindings.pairs c.args.bindings.now) (equation (tree c.args.left.now) (tree c.args.right.now) ∷ []) c.requires
    (subst (λ ps. Unifying (g.B.Bindings.pairs c.args.bindings.now) (equation (tree c.args.left.now) (tree c.args.right.now) ∷ []) (Some (map sides ps))) empty (rw c.in-Some.is at c.in_ok-would_add.ensures))

pub returns-in-None-clause-none : goal.returns-in-None-clause-none
returns-in-None-clause-none g c =
    some_always c.args.self (g.B.Bindings.pairs c.args.bindings.now) (equation (tree c.args.left.now) (tree c.args.right.now) ∷ []) c.requires (rw c.in-None.is at c.in_ok-would_add.ensures)

pub returns-in_ok-with-in-Some-clause-none : goal.returns-in_ok-with-in-Some-clause-none
returns-in_ok-with-in-Some-clause-none g c =
    some_differs c.in_ok-with-in-Some.field-0 (g.B.Bindings.pairs c.args.bindings.now) (equation (tree c.args.left.now) (tree c.args.right.now) ∷ []) c.in-Some.added c.requires
    (rw c.in-Some.is at c.in_ok-would_add.ensures) (search rules)
