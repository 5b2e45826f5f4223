-- Bindings to which others were added.
use Rattle.std.proofs.Common.{◌≡◌, ℕ, Bool, true, false, eqb, List, [], ◌∷◌, Some, None, inl, inr, sym, ap, subst, refl, ◌∙◌}
use Rattle.std.proofs.lemmas.Bool.{eq-eqb, eqb-true}
use Rattle.kan_terms.specs.Tree.{Tree, Tm, fill}
use Rattle.kan_terms.specs.Bound.{bound_to}
use Rattle.kan_terms.proofs.TreeLaws.{fill-leaf}
use Rattle.unify_core.specs.Walking.{Pairs, ends, full}
use Rattle.unify_core.specs.Solutions.{IsSolution, AddedTo}
use Rattle.unify_core.proofs.GrowthLaws.{Grown, bound-newest, bound-older, unbound_parts, ends-bound, ends-unbound}
use Rattle.unify_core.proofs.SolutionLaws.{solution_of, fill-full, IsSolution-same}
use Rattle.diseq.specs.Among.{Among}

-- a variable that isn't bound at the end wasn't bound before
pub unbound-before : (bound : Pairs) (added : List (Tm × Tm)) (new : Pairs) → AddedTo bound added new → (v : ℕ) → bound_to v new ≡ None → bound_to v bound ≡ None
unbound-before bound [] new put v h = subst (λ b. bound_to v b ≡ None) put h
unbound-before bound (p ∷ added) new (x, is, free, walks, put) v h = (unbound_parts (x, p.1) bound v (unbound-before ((x, p.1) ∷ bound) added new put v h)).1

-- a bound one stays bound
pub stays-bound : (bound : Pairs) (added : List (Tm × Tm)) (new : Pairs) → AddedTo bound added new → (v : ℕ) (t : Tm) → bound_to v bound ≡ Some t → bound_to v new ≡ Some t
stays-bound bound [] new put v t h = subst (λ b. bound_to v b ≡ Some t) (sym put) h
stays-bound bound (p ∷ added) new (x, is, free, walks, put) v t h = stays-bound ((x, p.1) ∷ bound) added new put v t (by (eqb v x) refl)
  where
    by : (c : Bool) → eqb v x ≡ c → bound_to v ((x, p.1) ∷ bound) ≡ Some t
    by true e = let bad : None ≡ Some t = sym free ∙ subst (λ w. bound_to w bound ≡ Some t) (eqb-true v x e) h in cc
    by false e = bound-older (x, p.1) bound v e ∙ h

-- each added pair was of an unbound variable, and binds it from then on
pub added-free : (bound : Pairs) (added : List (Tm × Tm)) (new : Pairs) → AddedTo bound added new → (x : ℕ) (t : Tm) → Among (Tree.leaf x, t) added → bound_to x bound ≡ None
added-free bound [] new put x t none = absurd none
added-free bound (p ∷ added) new (y, is, free, walks, put) x t (inl e) = let same : y ≡ x = cc in subst (λ z. bound_to z bound ≡ None) same free
added-free bound (p ∷ added) new (y, is, free, walks, put) x t (inr a) = (unbound_parts (y, p.1) bound x (added-free ((y, p.1) ∷ bound) added new put x t a)).1

pub added-bound : (bound : Pairs) (added : List (Tm × Tm)) (new : Pairs) → AddedTo bound added new → (x : ℕ) (t : Tm) → Among (Tree.leaf x, t) added → bound_to x new ≡ Some t
added-bound bound [] new put x t none = absurd none
added-bound bound (p ∷ added) new (y, is, free, walks, put) x t (inl e) =
    let same : y ≡ x = cc in
    let term : p.1 ≡ t = cc in
    stays-bound ((y, p.1) ∷ bound) added new put x t (bound-newest (y, p.1) bound x (eq-eqb x y (sym same)) ∙ ap Some term)
added-bound bound (p ∷ added) new (y, is, free, walks, put) x t (inr a) = added-bound ((y, p.1) ∷ bound) added new put x t a

-- a variable that wasn't bound before and is at the end is one of those that were added
pub bound-added : (bound : Pairs) (added : List (Tm × Tm)) (new : Pairs) → AddedTo bound added new → (x : ℕ) (t : Tm) → bound_to x bound ≡ None → bound_to x new ≡ Some t → Among (Tree.leaf x, t) added
bound-added bound [] new put x t free h = let bad : None ≡ Some t = sym (subst (λ b. bound_to x b ≡ None) (sym put) free) ∙ h in cc
bound-added bound (p ∷ added) new (y, is, unbound, walks, put) x t free h = by (eqb x y) refl (λ k. bound-added ((y, p.1) ∷ bound) added new put x t k h)
  where
    by : (c : Bool) → eqb x y ≡ c → (bound_to x ((y, p.1) ∷ bound) ≡ None → Among (Tree.leaf x, t) added) → Among (Tree.leaf x, t) (p ∷ added)
    by true e later =
        let same : x ≡ y = eqb-true x y e in
        let there = stays-bound ((y, p.1) ∷ bound) added new put x p.1 (bound-newest (y, p.1) bound x e) in
        let both : Some p.1 ≡ Some t = sym there ∙ h in
        let term : p.1 ≡ t = cc in
        let first : p.0 ≡ Tree.leaf x = is ∙ ap Tree.leaf (sym same) in
        inl (ap (λ a. (a, p.1)) first ∙ ap (λ b. (Tree.leaf x, b)) term)
    by false e later = inr (later (bound-older (y, p.1) bound x e ∙ free))

-- what solves them all solves the older ones
pub solves-before : {V : Type 0} (f : ℕ → Tree V) (bound : Pairs) (added : List (Tm × Tm)) (new : Pairs) → AddedTo bound added new → IsSolution f new → IsSolution f bound
solves-before f bound [] new put h = subst (IsSolution f) put h
solves-before f bound (p ∷ added) new (x, is, free, walks, put) h = (solves-before f ((x, p.1) ∷ bound) added new put h).1

-- full values solve the bindings
pub ends-solve : (bound : Pairs) → Grown bound → IsSolution (ends bound) bound
ends-solve bound g = IsSolution-same (λ v. fill Tree.leaf (ends bound v)) (ends bound) (λ v. fill-leaf (ends bound v)) bound (solution_of bound g Tree.leaf)

-- a full value under the older ones has the same full value
pub full-onward : (bound : Pairs) (added : List (Tm × Tm)) (new : Pairs) → Grown new → AddedTo bound added new → (t : Tm) → full new (full bound t) ≡ full new t
full-onward bound added new g put t = fill-full (ends new) bound (solves-before (ends new) bound added new put (ends-solve new g)) t

-- a bound variable has the full value of its term, and an unbound one its own
pub full-bound : (bound : Pairs) → Grown bound → (x : ℕ) (t : Tm) → bound_to x bound ≡ Some t → full bound (Tree.leaf x) ≡ full bound t
full-bound bound g x t h = ends-bound bound g x t h

pub full-free : (bound : Pairs) (x : ℕ) → bound_to x bound ≡ None → full bound (Tree.leaf x) ≡ Tree.leaf x
full-free bound x h = ends-unbound bound x h
