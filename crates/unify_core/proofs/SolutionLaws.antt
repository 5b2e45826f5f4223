-- The solutions of bindings.
use Rattle.std.proofs.Common.{◌≡◌, ℕ, Bool, true, false, eqb, List, [], ◌∷◌, ◌++◌, sym, ap, refl, ◌∙◌, if◌then◌else◌}
use Rattle.std.proofs.lemmas.Bool.{eq-eqb, eqb-true}
use Rattle.kan_terms.specs.Tree.{Tree, Tm, fill}
use Rattle.kan_terms.proofs.TreeLaws.{fill-fill, fill-leaf, fill-same}
use Rattle.kan_model.specs.Stores.Store.{Equation}
use Rattle.kan_model.specs.Stores.Solve.{replace}
use Rattle.kan_model.specs.Stores.Unifiers.{Unifies}
use Rattle.kan_model.proofs.Solving.UnifierLaws.{given, fill-replace}
use Rattle.unify_core.specs.Walking.{Pairs, walk, ends, full}
use Rattle.unify_core.specs.Solutions.{IsSolution, bindings_solved, equation}
use Rattle.unify_core.proofs.GrowthLaws.{Grown, full-newest, bound-newest, ends-bound}
use Rattle.unify_core.proofs.WalkLaws.{full-walk}

-- replacing a variable by a term that has its value changes no value
pub fill-replace_known : {V : Type 0} (f : ℕ → Tree V) (x : ℕ) (t u : Tm) → f x ≡ fill f t → fill f (replace x t u) ≡ fill f u
fill-replace_known f x t u known = fill-replace f x t u ∙ fill-same (given x (fill f t) f) f (λ v. by v (eqb x v) refl) u
  where
    by : (v : ℕ) (c : Bool) → eqb x v ≡ c → (if c then fill f t else f v) ≡ f v
    by v true e = sym known ∙ ap f (eqb-true x v e)
    by v false e = refl

-- under a solution a term and its full value have the same value
pub fill-full : {V : Type 0} (f : ℕ → Tree V) (bound : Pairs) → IsSolution f bound → (u : Tm) → fill f (full bound u) ≡ fill f u
fill-full f [] s u = ap (fill f) (fill-leaf u)
fill-full f (p ∷ older) (here, s) u =
    ap (fill f) (full-newest p older u) ∙ fill-replace_known f p.0 (full older p.1) (full older u) (here ∙ sym (fill-full f older s p.1)) ∙ fill-full f older s u

-- and so have a term and what it walks to
pub fill-walk : {V : Type 0} (f : ℕ → Tree V) (bound : Pairs) → Grown bound → IsSolution f bound → (u : Tm) → fill f (walk bound u) ≡ fill f u
fill-walk f bound g s u = sym (fill-full f bound s (walk bound u)) ∙ ap (fill f) (full-walk bound g u) ∙ fill-full f bound s u

-- what agrees with a solution is one
pub IsSolution-same : {V : Type 0} (f h : ℕ → Tree V) → ((v : ℕ) → f v ≡ h v) → (bound : Pairs) → IsSolution f bound → IsSolution h bound
IsSolution-same f h same [] s = tt
IsSolution-same f h same (p ∷ older) (here, s) = (sym (same p.0) ∙ here ∙ fill-same f h same p.1, IsSolution-same f h same older s)

-- whatever is put for the variables of full values, their values are a solution
pub solution_of : {V : Type 0} (bound : Pairs) → Grown bound → (h : ℕ → Tree V) → IsSolution (λ v. fill h (ends bound v)) bound
solution_of [] g h = tt
solution_of (p ∷ older) (fresh, out, g) h = (
  ap (fill h) (ends-bound (p ∷ older) (fresh, out, g) p.0 p.1 (bound-newest p older p.0 (eq-eqb p.0 p.0 refl))) ∙ fill-fill h (ends (p ∷ older)) p.1,
  IsSolution-same (λ v. fill (given p.0 (fill h (full older p.1)) h) (ends older v)) (λ v. fill h (ends (p ∷ older) v))
      (λ v. sym (fill-replace h p.0 (full older p.1) (ends older v))) older (solution_of older g (given p.0 (fill h (full older p.1)) h)),
)

-- the unifiers of some equations and one more
pub Unifies-push : {V : Type 0} (f : ℕ → Tree V) (es : List Equation) (e : Equation) → Unifies f es → fill f e.left ≡ fill f e.right → Unifies f (es ++ e ∷ [])
Unifies-push f [] e u last = (last, tt)
Unifies-push f (d ∷ es) e (same, u) last = (same, Unifies-push f es e u last)

pub Unifies-parts : {V : Type 0} (f : ℕ → Tree V) (es : List Equation) (e : Equation) → Unifies f (es ++ e ∷ []) → Unifies f es × (fill f e.left ≡ fill f e.right)
Unifies-parts f [] e (last, u) = (tt, last)
Unifies-parts f (d ∷ es) e (same, u) = let (rest, last) = Unifies-parts f es e u in ((same, rest), last)

-- the solutions of bindings are the unifiers of them as equations
pub solution_unifies : {V : Type 0} (f : ℕ → Tree V) (bound : Pairs) → IsSolution f bound → Unifies f (bindings_solved bound)
solution_unifies f [] s = tt
solution_unifies f (p ∷ older) (here, s) = Unifies-push f (bindings_solved older) (equation (Tree.leaf p.0) p.1) (solution_unifies f older s) here

pub unifier_solves : {V : Type 0} (f : ℕ → Tree V) (bound : Pairs) → Unifies f (bindings_solved bound) → IsSolution f bound
unifier_solves f [] u = tt
unifier_solves f (p ∷ older) u = let (rest, last) = Unifies-parts f (bindings_solved older) (equation (Tree.leaf p.0) p.1) u in (last, unifier_solves f older rest)
