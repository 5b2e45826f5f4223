-- Bindings without a cycle and the replacement that the solver answers for them.
use Rattle.std.proofs.Common.{◌≡◌, ◌≢◌, ◌⊎◌, ℕ, true, false, eqb, List, [], ◌∷◌, ◌++◌, Option, Some, None, inl, inr, sym, ap, subst, refl, ◌∙◌}
use Rattle.std.proofs.lemmas.Bool.{eq-eqb, ne_eqb, true≢false, false_from_ne_true, both_ways}
use Rattle.kan_terms.specs.Tree.{Tree, Tm, Gd, fill, occurs}
use Rattle.kan_terms.specs.Bound.{bound_to}
use Rattle.kan_terms.proofs.TreeLaws.{fill-fill, fill-same}
use Rattle.kan_model.specs.Stores.Store.{Equation}
use Rattle.kan_model.specs.Stores.Solve.{Replacement, Solves, image, apply, left_first, solve}
use Rattle.kan_model.specs.Stores.Unifiers.{Unifies, Factors, replaces}
use Rattle.kan_model.proofs.Solving.SolveLaws.{solve_by-Solves}
use Rattle.kan_model.proofs.Solving.UnifierLaws.{answer_unifies, answer_most_general, factors_unify}
use Rattle.kan_model.proofs.Solving.ReplacedLaws.{applied_twice, apply-kept}
use Rattle.kan_model.proofs.Solving.VariableCount.{occurs_replace}
use Rattle.unify_core.specs.Walking.{Pairs, ends, full}
use Rattle.unify_core.specs.Solutions.{IsSolution, bindings_solved, equation}
use Rattle.unify_core.specs.Unifying.{Unifying}
use Rattle.unify_core.proofs.GrowthLaws.{Grown, full-newest, bound-newest, bound-older, unbound_parts}
use Rattle.unify_core.proofs.Relation.LeftLaws.{Lefts, Lefts-like, Lefts-push, replaces_lefts}
use Rattle.unify_core.proofs.SolutionLaws.{fill-full, solution_of, solution_unifies, unifier_solves, Unifies-push, Unifies-parts}
use Rattle.unify_core.proofs.Relation.UnifyingLaws.{unifying_makes}

-- the empty list for each variable
abbrev all_nil : ℕ → Gd
all_nil v = Tree.nil

-- bindings without a cycle have a solution
pub some_solution : (bound : Pairs) → Grown bound → IsSolution (λ v. fill all_nil (ends bound v)) bound
some_solution bound g = solution_of bound g all_nil

-- equations that the solver answers have a unifier
pub answered_unifier : (es : List Equation) (s : Replacement) → solve es ≡ Some s → Unifies (λ v. fill all_nil (image s v)) es
answered_unifier es s h = factors_unify left_first es s (λ v. fill all_nil (image s v)) h
    (λ v. ap (fill all_nil) (sym (applied_twice left_first es s (Tree.leaf v) h)) ∙ fill-fill all_nil (image s) (image s v))

-- no full value has a bound variable
pub full_unbound : (bound : Pairs) → Grown bound → (u : Tm) (y : ℕ) → occurs y (full bound u) ≡ true → bound_to y bound ≡ None
full_unbound [] g u y inside = refl
full_unbound (p ∷ older) (fresh, out, g) u y inside =
    by (occurs_replace y p.0 (full older p.1) (full older u) (subst (λ w. occurs y w ≡ true) (full-newest p older u) inside)) (full_unbound older g u y) (full_unbound older g p.1 y)
  where
    by : ((occurs y (full older u) ≡ true) × (eqb p.0 y ≡ false)) ⊎ (occurs y (full older p.1) ≡ true) →
        (occurs y (full older u) ≡ true → bound_to y older ≡ None) → (occurs y (full older p.1) ≡ true → bound_to y older ≡ None) → bound_to y (p ∷ older) ≡ None
    by (inl (there, other)) of_term of_newest = bound-older p older y (ne_eqb y p.0 (λ same. true≢false (sym (eq-eqb p.0 y (sym same)) ∙ other))) ∙ of_term there
    by (inr there) of_term of_newest =
        bound-older p older y (ne_eqb y p.0 (λ same. both_ways (occurs p.0 (full older p.1)) out (subst (λ v. occurs v (full older p.1) ≡ true) same there))) ∙ of_newest there

-- a variable is bound
abbrev pub IsBound : Pairs → ℕ → Type 0
IsBound bound v = bound_to v bound ≢ None

-- bindings as equations have their bound variables on the left
pub lefts_bound : (bound : Pairs) → Grown bound → Lefts (IsBound bound) (bindings_solved bound)
lefts_bound [] g = tt
lefts_bound (p ∷ older) (fresh, out, g) =
    Lefts-like (λ v. IsBound older v ⊎ (v ≡ p.0)) (IsBound (p ∷ older)) by (bindings_solved older ++ equation (Tree.leaf p.0) p.1 ∷ [])
    (Lefts-push (IsBound older) (bindings_solved older) p.0 p.1 (lefts_bound older g) (λ is_bound. is_bound fresh))
  where
    by : (v : ℕ) → IsBound older v ⊎ (v ≡ p.0) → IsBound (p ∷ older) v
    by v (inl there) = λ none. there (unbound_parts p older v none).1
    by v (inr same) = λ none. (let both : Some p.1 ≡ None = sym (bound-newest p older v (eq-eqb v p.0 same)) ∙ none in cc)

-- so what the solver answers for them leaves the other variables alone
pub answer_leaves : (bound : Pairs) → Grown bound → (s : Replacement) → solve (bindings_solved bound) ≡ Some s → (v : ℕ) → bound_to v bound ≡ None → replaces s v ≡ false
answer_leaves bound g s h v none =
    false_from_ne_true (replaces s v) (λ e.
    replaces_lefts (bindings_solved bound) (Some s) (subst (Solves left_first (bindings_solved bound)) h (solve_by-Solves left_first (bindings_solved bound))) (IsBound bound) (lefts_bound bound g) v e none)

-- and gives each variable its full value
pub answer_ends : (bound : Pairs) → Grown bound → (s : Replacement) → solve (bindings_solved bound) ≡ Some s → (v : ℕ) → ends bound v ≡ image s v
answer_ends bound g s h v =
    sym (apply-kept s (ends bound v) (λ y inside. answer_leaves bound g s h y (full_unbound bound g (Tree.leaf v) y inside)))
    ∙ fill-full (image s) bound (unifier_solves (image s) bound (answer_unifies left_first (bindings_solved bound) s h)) (Tree.leaf v)

pub answer_full : (bound : Pairs) → Grown bound → (s : Replacement) → solve (bindings_solved bound) ≡ Some s → (t : Tm) → full bound t ≡ apply s t
answer_full bound g s h t = fill-same (ends bound) (image s) (answer_ends bound g s h) t

-- the solver answers for bindings without a cycle
pub answered : (bound : Pairs) → Grown bound → (s : Replacement) × (solve (bindings_solved bound) ≡ Some s) × Factors (λ v. fill all_nil (ends bound v)) s
answered bound g = answer_most_general left_first (bindings_solved bound) (λ v. fill all_nil (ends bound v))
    (solution_unifies (λ v. fill all_nil (ends bound v)) bound (some_solution bound g))

-- the solutions of bindings are what factors through the answer
pub solution_factors : (bound : Pairs) → Grown bound → (s : Replacement) → solve (bindings_solved bound) ≡ Some s → (f : ℕ → Gd) → IsSolution f bound → Factors f s
solution_factors bound g s h f solves v = sym (fill-full f bound solves (Tree.leaf v)) ∙ ap (fill f) (answer_ends bound g s h v)

pub factors_solve : (bound : Pairs) (s : Replacement) → solve (bindings_solved bound) ≡ Some s → (f : ℕ → Gd) → Factors f s → IsSolution f bound
factors_solve bound s h f factors = unifier_solves f bound (factors_unify left_first (bindings_solved bound) s f h factors)

-- where unification makes bindings, the solver answers for the older ones and the equation, and where it makes none it doesn't
pub none_unsolved : (bound : Pairs) → Grown bound → (e : Equation) → Unifying bound (e ∷ []) None → solve (bindings_solved bound ++ e ∷ []) ≡ None
none_unsolved bound g e d = by (solve (bindings_solved bound ++ e ∷ [])) refl
  where
    by : (r : Option Replacement) → solve (bindings_solved bound ++ e ∷ []) ≡ r → r ≡ None
    by None h = refl
    by (Some s) h =
        let (u, last) = Unifies-parts (λ v. fill all_nil (image s v)) (bindings_solved bound) e (answered_unifier (bindings_solved bound ++ e ∷ []) s h) in
        absurd (unifying_makes ⊥ bound (e ∷ []) None d g (λ v. fill all_nil (image s v)) (unifier_solves (λ v. fill all_nil (image s v)) bound u) (last, tt))

pub some_solved : (bound : Pairs) → Grown bound → (e : Equation) (added : List (Tm × Tm)) → Unifying bound (e ∷ []) (Some added) → solve (bindings_solved bound ++ e ∷ []) ≢ None
some_solved bound g e added d none =
    let (new, put, gn, exact) = unifying_makes ⊥ bound (e ∷ []) (Some added) d g in
    let (old, (last, _)) = (exact (λ v. fill all_nil (ends new v))).0 (some_solution new gn) in
    let (s, h, factors) = answer_most_general left_first (bindings_solved bound ++ e ∷ []) (λ v. fill all_nil (ends new v))
    (Unifies-push (λ v. fill all_nil (ends new v)) (bindings_solved bound) e (solution_unifies (λ v. fill all_nil (ends new v)) bound old) last) in
    let both : Some s ≡ None = sym h ∙ none in cc
