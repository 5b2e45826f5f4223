use Rattle.std.proofs.Common.{◌≡◌, ◌↔◌, ℕ, IfOk, IfSome, subst}
use Rattle.kan_terms.specs.Terms.{tree}
use Rattle.kan_terms.specs.Tree.{Gd, fill}
use Rattle.unify_core.specs.Solutions.{IsSolution}
use Rattle.unify_core.proofs.unifying.unify.Goals as goal

pub returns-clause-solutions : goal.returns-clause-solutions
returns-clause-solutions g c =
    subst (λ b. IfOk c.unify_owned.result (λ found. IfSome found (λ made. (f : ℕ → Gd) → IsSolution f (g.B.Bindings.pairs made.bindings) ↔
    (IsSolution f b × (fill f (tree c.args.left.now) ≡ fill f (tree c.args.right.now)))))) c.in_ok-again.ensures c.unify_owned.ensures.solutions
