-- What unification promises, from what it adds.
use Rattle.std.proofs.Common.{◌≡◌, ◌↔◌, ℕ, List, [], ◌∷◌, ◌++◌, Option, Some, None, sym, subst, refl, ◌∙◌}
use Rattle.kan_terms.specs.Tree.{Tm, Gd, fill}
use Rattle.kan_model.specs.Stores.Store.{Equation}
use Rattle.kan_model.specs.Stores.Solve.{solve}
use Rattle.unify_core.specs.Walking.{Pairs}
use Rattle.unify_core.specs.Cycles.{HasNoCycle}
use Rattle.unify_core.specs.Solutions.{IsSolution, AddedTo, equation, bindings_solved}
use Rattle.unify_core.specs.Unifying.{Unifying}
use Rattle.unify_core.proofs.CycleLaws.{grown, no_cycle}
use Rattle.unify_core.proofs.AnswerLaws.{some_solved, none_unsolved}
use Rattle.unify_core.proofs.Relation.UnifyingLaws.{unifying_makes}

-- bindings to which these pairs are added are one list
pub added-one : (older : Pairs) (added : List (Tm × Tm)) (one other : Pairs) → AddedTo older added one → AddedTo older added other → one ≡ other
added-one older [] one other h k = h ∙ sym k
added-one older (p ∷ more) one other (x, same, none, walks, h) (y, same', none', walks', k) =
    let var : y ≡ x = cc in
    added-one ((x, p.1) ∷ older) more one other h (subst (λ v. AddedTo ((v, p.1) ∷ older) more other) var k)

-- what unification adds can be put in front of the bindings
pub puts : (bound : Pairs) → HasNoCycle bound → (es : List Equation) (added : List (Tm × Tm)) → Unifying bound es (Some added) → (new : Pairs) × AddedTo bound added new
puts bound h es added d = let (new, put, g, exact) = unifying_makes ⊥ bound es (Some added) d (grown bound h) in (new, put)

-- and then there is no cycle
pub puts_no_cycle : (bound : Pairs) → HasNoCycle bound → (es : List Equation) (added : List (Tm × Tm)) → Unifying bound es (Some added) →
    (made : Pairs) → AddedTo bound added made → HasNoCycle made
puts_no_cycle bound h es added d made is_made =
    let (new, put, g, exact) = unifying_makes ⊥ bound es (Some added) d (grown bound h) in
    subst HasNoCycle (added-one bound added new made put is_made) (no_cycle new g)

-- and the solutions are those asked for
pub puts_solutions : (bound : Pairs) → HasNoCycle bound → (a b : Tm) (added : List (Tm × Tm)) → Unifying bound (equation a b ∷ []) (Some added) →
    (made : Pairs) → AddedTo bound added made → (f : ℕ → Gd) → IsSolution f made ↔ (IsSolution f bound × (fill f a ≡ fill f b))
puts_solutions bound h a b added d made is_made f =
    let (new, put, g, exact) = unifying_makes ⊥ bound (equation a b ∷ []) (Some added) d (grown bound h) in
    let same : made ≡ new = added-one bound added made new is_made put in (
      λ s. (let (old, (last, _)) = (exact f).0 (subst (IsSolution f) same s) in (old, last)),
      λ (old, last). subst (IsSolution f) (sym same) ((exact f).1 old (last, tt)),
    )

-- where something was made there is a unifier
pub puts_some : (bound : Pairs) → HasNoCycle bound → (a b : Tm) (added : List (Tm × Tm)) → Unifying bound (equation a b ∷ []) (Some added) →
    {M : Type 0} (m : M) → (Some m ≡ None) ↔ (solve (bindings_solved bound ++ equation a b ∷ []) ≡ None)
puts_some bound h a b added d m = (λ e. cc, λ e. absurd (some_solved bound (grown bound h) (equation a b) added d e))

-- and where nothing was made there is none
pub puts_none : {M : Type 0} (bound : Pairs) → HasNoCycle bound → (a b : Tm) → Unifying bound (equation a b ∷ []) None → (◌≡◌ {A = Option M} None None) ↔ (solve (bindings_solved bound ++ equation a b ∷ []) ≡ None)
puts_none bound h a b d = (λ e. none_unsolved bound (grown bound h) (equation a b) d, λ e. refl)
