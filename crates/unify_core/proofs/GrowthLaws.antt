-- Bindings that grew pair by pair, and full values under them.
use Rattle.std.proofs.Common.{◌≡◌, ℕ, Bool, true, false, eqb, [], ◌∷◌, Some, None, sym, ap, subst, refl, ◌∙◌, if◌then◌else◌}
use Rattle.std.proofs.lemmas.Bool.{eq-eqb, eqb-true, eqb-false, ne_eqb}
use Rattle.kan_terms.specs.Tree.{Tree, Tm, occurs}
use Rattle.kan_terms.specs.Bound.{bound_to}
use Rattle.kan_terms.proofs.TreeLaws.{fill-fill, fill-absent_leaf}
use Rattle.kan_model.specs.Stores.Solve.{replace}
use Rattle.unify_core.specs.Walking.{Pairs, ends, full}

-- each pair was put in front for a variable that wasn't bound and doesn't stand in its term under the older ones
abbrev pub Grown : Pairs → Type 0
Grown [] = Unit {0}
Grown (newest ∷ older) = (bound_to newest.0 older ≡ None) × (occurs newest.0 (full older newest.1) ≡ false) × Grown older

-- which of two numbers is asked about the other doesn't matter
pub eqb-turn : (x y : ℕ) → eqb x y ≡ eqb y x
eqb-turn x y = by (eqb x y) refl
  where
    by : (c : Bool) → eqb x y ≡ c → eqb x y ≡ eqb y x
    by true e = e ∙ sym (eq-eqb y x (sym (eqb-true x y e)))
    by false e = e ∙ sym (ne_eqb y x (λ same. eqb-false x y e (sym same)))

-- a variable that is replaced
pub replace_self : (x : ℕ) (t : Tm) → replace x t (Tree.leaf x) ≡ t
replace_self x t = ap (λ c. if c then t else Tree.leaf x) (eq-eqb x x refl)

-- a term in which the variable doesn't stand
pub replace_absent : (x : ℕ) (t u : Tm) → occurs x u ≡ false → replace x t u ≡ u
replace_absent x t u out = fill-absent_leaf x (λ v. if eqb x v then t else Tree.leaf v) (λ y e. ap (λ c. if c then t else Tree.leaf y) e) u out

-- a term's full value is that under the older pairs, with the newest variable replaced
pub full-newest : (p : ℕ × Tm) (older : Pairs) (u : Tm) → full (p ∷ older) u ≡ replace p.0 (full older p.1) (full older u)
full-newest p older u = sym (fill-fill (λ v. if eqb p.0 v then full older p.1 else Tree.leaf v) (ends older) u)

-- what it says of a variable that the newest pair binds it, or doesn't
pub bound-newest : (p : ℕ × Tm) (older : Pairs) (v : ℕ) → eqb v p.0 ≡ true → bound_to v (p ∷ older) ≡ Some p.1
bound-newest p older v e = ap (λ c. if c then Some p.1 else bound_to v older) e

pub bound-older : (p : ℕ × Tm) (older : Pairs) (v : ℕ) → eqb v p.0 ≡ false → bound_to v (p ∷ older) ≡ bound_to v older
bound-older p older v e = ap (λ c. if c then Some p.1 else bound_to v older) e

pub unbound_parts : (p : ℕ × Tm) (older : Pairs) (v : ℕ) → bound_to v (p ∷ older) ≡ None → (eqb v p.0 ≡ false) × (bound_to v older ≡ None)
unbound_parts p older v h = by (eqb v p.0) refl
  where
    by : (c : Bool) → eqb v p.0 ≡ c → (eqb v p.0 ≡ false) × (bound_to v older ≡ None)
    by true e = let none : Some p.1 ≡ None = sym (bound-newest p older v e) ∙ h in cc
    by false e = (e, sym (bound-older p older v e) ∙ h)

-- the full value of a variable that isn't bound is the variable
pub ends-unbound : (bound : Pairs) (v : ℕ) → bound_to v bound ≡ None → ends bound v ≡ Tree.leaf v
ends-unbound [] v h = refl
ends-unbound (p ∷ older) v h =
    let (other, none) = unbound_parts p older v h in
    ap (replace p.0 (full older p.1)) (ends-unbound older v none) ∙ ap (λ c. if c then full older p.1 else Tree.leaf v) (eqb-turn p.0 v ∙ other)

-- that of a bound one is the full value of its term
pub ends-bound : (bound : Pairs) → Grown bound → (v : ℕ) (u : Tm) → bound_to v bound ≡ Some u → ends bound v ≡ full bound u
ends-bound [] g v u h = cc
ends-bound (p ∷ older) (fresh, out, g) v u h = by (eqb v p.0) refl (ends-bound older g v u)
  where
    by : (c : Bool) → eqb v p.0 ≡ c → (bound_to v older ≡ Some u → ends older v ≡ full older u) → ends (p ∷ older) v ≡ full (p ∷ older) u
    by true e ih =
        let same = eqb-true v p.0 e in
        let known : Some p.1 ≡ Some u = sym (bound-newest p older v e) ∙ h in
        let term : p.1 ≡ u = cc in
        ap (replace p.0 (full older p.1)) (ends-unbound older v (subst (λ w. bound_to w older ≡ None) (sym same) fresh))
        ∙ ap (λ w. replace p.0 (full older p.1) (Tree.leaf w)) same ∙ replace_self p.0 (full older p.1)
        ∙ sym (replace_absent p.0 (full older p.1) (full older p.1) out) ∙ sym (full-newest p older p.1) ∙ ap (full (p ∷ older)) term
    by false e ih =
        ap (replace p.0 (full older p.1)) (ih (sym (bound-older p older v e) ∙ h)) ∙ sym (full-newest p older u)
