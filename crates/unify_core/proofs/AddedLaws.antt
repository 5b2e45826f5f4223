-- The solutions of what unification adds.
use Rattle.std.proofs.Common.{◌↔◌, ℕ, List, [], ◌∷◌, Some, None, sym, ap, subst, ◌∙◌}
use Rattle.kan_terms.specs.Tree.{Tree, Tm, fill}
use Rattle.kan_model.specs.Stores.Unifiers.{Unifies}
use Rattle.unify_core.specs.Walking.{Pairs}
use Rattle.unify_core.specs.Solutions.{IsSolution, AddedTo}
use Rattle.unify_core.specs.Laws.{AddedSolve, AddsSolutions, added_equations}
use Rattle.unify_core.proofs.CycleLaws.{grown, no_cycle}
use Rattle.unify_core.proofs.Relation.UnifyingLaws.{unifying_makes}

-- bindings to which pairs were added have the solutions of the older ones that make the sides of the pairs the same
pub added_solutions : {V : Type 0} (f : ℕ → Tree V) (older : Pairs) (added : List (Tm × Tm)) (new : Pairs) → AddedTo older added new →
    IsSolution f new ↔ (IsSolution f older × Unifies f (added_equations added))
added_solutions f older [] new put = (λ s. (subst (IsSolution f) put s, tt), λ (s, u). subst (IsSolution f) (sym put) s)
added_solutions f older (p ∷ more) new (x, same, none, walks, put) =
    let (there, back) = added_solutions f ((x, p.1) ∷ older) more new put in (
      λ s. (let ((here, old), u) = there s in (old, (ap (fill f) same ∙ here, u))),
      λ (old, (here, u)). back ((sym (ap (fill f) same) ∙ here, old), u),
    )

-- beside the bindings, what is added has the solutions of the equations
pub added_solve : (V : Type 0) → AddedSolve V
added_solve V = (
  λ bound es added h d f s. (
      let (new, put, g, exact) = unifying_makes V bound es (Some added) d (grown bound h) in
      let (there, back) = added_solutions f bound added new put in (
        λ u. (there ((exact f).1 s u)).1,
        λ u. ((exact f).0 (back (s, u))).1,
      )),
  λ bound es h d f s u. unifying_makes V bound es None d (grown bound h) f s u,
)

pub adds_solutions : AddsSolutions
adds_solutions = record {
  of_terms = added_solve ℕ;
  of_ground = added_solve ⊥;
  can_be_put = λ bound es added h d. (let (new, put, g, exact) = unifying_makes ⊥ bound es (Some added) d (grown bound h) in (new, put, no_cycle new g));
}
