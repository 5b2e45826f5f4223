-- Where walking leads.
use Rattle.std.proofs.Common.{◌≡◌, ◌≢◌, ℕ, suc, ◌+◌, Bool, true, false, eqb, [], ◌∷◌, Some, None, sym, ap, subst, refl, ◌∙◌, arith, if◌then◌else◌}
use Rattle.std.proofs.lemmas.Bool.{eq-eqb, eqb-true, ne_eqb, true≢false}
use Rattle.kan_terms.specs.Tree.{Tree, Tm, occurs}
use Rattle.kan_terms.specs.Bound.{bound_to}
use Rattle.kan_model.specs.Stores.Solve.{replace}
use Rattle.unify_core.specs.Walking.{Pairs, go_on, walk, full}
use Rattle.unify_core.proofs.GrowthLaws.{Grown, eqb-turn, full-newest, bound-newest, bound-older, unbound_parts, ends-unbound, ends-bound}

-- what a term walks to has the term's full value
pub full-walk : (bound : Pairs) → Grown bound → (u : Tm) → full bound (walk bound u) ≡ full bound u
full-walk [] g u = refl
full-walk (p ∷ older) (fresh, out, g) u = by (walk older u) (full-walk older g u) (full-walk older g p.1)
  where
    stays : (w v : Tm) → full older w ≡ full older v → full (p ∷ older) w ≡ full (p ∷ older) v
    stays w v e = full-newest p older w ∙ ap (replace p.0 (full older p.1)) e ∙ sym (full-newest p older v)

    choose : (y : ℕ) (c : Bool) → eqb p.0 y ≡ c → full older (Tree.leaf y) ≡ full older u → full older (walk older p.1) ≡ full older p.1 →
        full (p ∷ older) (if c then walk older p.1 else Tree.leaf y) ≡ full (p ∷ older) u
    choose y true same e ih =
        stays (walk older p.1) p.1 ih
        ∙ sym (ends-bound (p ∷ older) (fresh, out, g) y p.1 (bound-newest p older y (eqb-turn y p.0 ∙ same))) ∙ stays (Tree.leaf y) u e
    choose y false other e ih = stays (Tree.leaf y) u e

    by : (w : Tm) → full older w ≡ full older u → full older (walk older p.1) ≡ full older p.1 → full (p ∷ older) (go_on p.0 (walk older p.1) w) ≡ full (p ∷ older) u
    by (Tree.leaf y) e ih = choose y (eqb p.0 y) refl e ih
    by w e ih = stays w u e

-- no way leads back to the newest variable
not_reached : (p : ℕ × Tm) (older : Pairs) → Grown (p ∷ older) → walk older p.1 ≢ Tree.leaf p.0
not_reached p older (fresh, out, g) h =
    let whole : Tree.leaf p.0 ≡ full older p.1 = sym (ends-unbound older p.0 fresh) ∙ ap (full older) (sym h) ∙ full-walk older g p.1 in
    true≢false (sym (eq-eqb p.0 p.0 refl) ∙ ap (occurs p.0) whole ∙ out)

-- a variable that is walked to isn't bound
pub walk-end : (bound : Pairs) → Grown bound → (u : Tm) (y : ℕ) → walk bound u ≡ Tree.leaf y → bound_to y bound ≡ None
walk-end [] g u y h = refl
walk-end (p ∷ older) (fresh, out, g) u y h = by (walk older u) (walk-end older g u) (walk-end older g p.1 y) h
  where
    choose : (z : ℕ) (c : Bool) → eqb p.0 z ≡ c → ((v : ℕ) → Tree.leaf z ≡ Tree.leaf v → bound_to v older ≡ None) →
        (walk older p.1 ≡ Tree.leaf y → bound_to y older ≡ None) →
        (if c then walk older p.1 else Tree.leaf z) ≡ Tree.leaf y → bound_to y (p ∷ older) ≡ None
    choose z true same ih next e =
        bound-older p older y (ne_eqb y p.0 (λ back. not_reached p older (fresh, out, g) (e ∙ ap Tree.leaf back))) ∙ next e
    choose z false other ih next e =
        let same : z ≡ y = cc in
        bound-older p older y (ap (λ v. eqb v p.0) (sym same) ∙ eqb-turn z p.0 ∙ other) ∙ ih y e

    by : (w : Tm) → ((v : ℕ) → w ≡ Tree.leaf v → bound_to v older ≡ None) → (walk older p.1 ≡ Tree.leaf y → bound_to y older ≡ None) → go_on p.0 (walk older p.1) w ≡ Tree.leaf y → bound_to y (p ∷ older) ≡ None
    by (Tree.leaf z) ih next e = choose z (eqb p.0 z) refl ih next e
    by w ih next e = cc

-- the way goes past what is no variable
goes_past : (x : ℕ) (t u : Tm) → ((y : ℕ) → u ≢ Tree.leaf y) → go_on x t u ≡ u
goes_past x t (Tree.leaf y) other = absurd (other y refl)
goes_past x t u other = refl

-- a term that is no variable walks to itself
pub walk-term : (bound : Pairs) (u : Tm) → ((y : ℕ) → u ≢ Tree.leaf y) → walk bound u ≡ u
walk-term [] u other = refl
walk-term (p ∷ older) u other = ap (go_on p.0 (walk older p.1)) (walk-term older u other) ∙ goes_past p.0 (walk older p.1) u other

-- and so does a variable that isn't bound
pub walk-unbound : (bound : Pairs) (v : ℕ) → bound_to v bound ≡ None → walk bound (Tree.leaf v) ≡ Tree.leaf v
walk-unbound [] v h = refl
walk-unbound (p ∷ older) v h =
    let (other, none) = unbound_parts p older v h in
    ap (go_on p.0 (walk older p.1)) (walk-unbound older v none) ∙ ap (λ c. if c then walk older p.1 else Tree.leaf v) (eqb-turn p.0 v ∙ other)

go_on-same : (x : ℕ) (u : Tm) → go_on x u u ≡ u
go_on-same x (Tree.leaf y) = by (eqb x y)
  where
    by : (c : Bool) → (if c then Tree.leaf y else Tree.leaf y) ≡ Tree.leaf y
    by true = refl
    by false = refl
go_on-same x u = refl

-- a bound variable walks to where its term does
pub walk-bound : (bound : Pairs) → Grown bound → (v : ℕ) (u : Tm) → bound_to v bound ≡ Some u → walk bound (Tree.leaf v) ≡ walk bound u
walk-bound [] g v u h = cc
walk-bound (p ∷ older) (fresh, out, g) v u h = by (eqb v p.0) refl (walk-bound older g v u)
  where
    by : (c : Bool) → eqb v p.0 ≡ c → (bound_to v older ≡ Some u → walk older (Tree.leaf v) ≡ walk older u) → walk (p ∷ older) (Tree.leaf v) ≡ walk (p ∷ older) u
    by true e ih =
        let same = eqb-true v p.0 e in
        let known : Some p.1 ≡ Some u = sym (bound-newest p older v e) ∙ h in
        let term : p.1 ≡ u = cc in
        ap (go_on p.0 (walk older p.1)) (walk-unbound older v (subst (λ w. bound_to w older ≡ None) (sym same) fresh))
        ∙ ap (λ c. if c then walk older p.1 else Tree.leaf v) (eqb-turn p.0 v ∙ e)
        ∙ sym (go_on-same p.0 (walk older p.1)) ∙ ap (walk (p ∷ older)) term
    by false e ih = ap (go_on p.0 (walk older p.1)) (ih (sym (bound-older p older v e) ∙ h))

-- what was walked to walks to itself
pub walk-twice : (bound : Pairs) → Grown bound → (u : Tm) → walk bound (walk bound u) ≡ walk bound u
walk-twice bound g u = by (walk bound u) (walk-end bound g u)
  where
    by : (w : Tm) → ((y : ℕ) → w ≡ Tree.leaf y → bound_to y bound ≡ None) → walk bound w ≡ w
    by (Tree.leaf y) ends_there = walk-unbound bound y (ends_there y refl)
    by (Tree.sym s) ends_there = walk-term bound (Tree.sym s) (λ y e. cc)
    by (Tree.str s) ends_there = walk-term bound (Tree.str s) (λ y e. cc)
    by (Tree.num n) ends_there = walk-term bound (Tree.num n) (λ y e. cc)
    by (Tree.truth b) ends_there = walk-term bound (Tree.truth b) (λ y e. cc)
    by Tree.nil ends_there = walk-term bound Tree.nil (λ y e. cc)
    by (Tree.pair a b) ends_there = walk-term bound (Tree.pair a b) (λ y e. cc)

-- how many variables are passed from where the newest variable was reached
abbrev pub ways : ℕ → ℕ → Tm → ℕ
ways x n (Tree.leaf y) = if eqb x y then n else 0
ways x n reached = 0

-- how many bound variables are passed on the way from a term
abbrev pub way : Pairs → Tm → ℕ
way [] u = 0
way (newest ∷ older) u = way older u + ways newest.0 (suc (way older newest.1)) (walk older u)

way-unbound : (bound : Pairs) (v : ℕ) → bound_to v bound ≡ None → way bound (Tree.leaf v) ≡ 0
way-unbound [] v h = refl
way-unbound (p ∷ older) v h =
    let (other, none) = unbound_parts p older v h in
    let here : ways p.0 (suc (way older p.1)) (walk older (Tree.leaf v)) ≡ 0 =
    ap (ways p.0 (suc (way older p.1))) (walk-unbound older v none) ∙ ap (λ c. if c then suc (way older p.1) else 0) (eqb-turn p.0 v ∙ other) in
    omega (arith, way-unbound older v none, here)

ways-past : (x n : ℕ) (u : Tm) → u ≢ Tree.leaf x → ways x n u ≡ 0
ways-past x n (Tree.leaf y) other = ap (λ c. if c then n else 0) (ne_eqb x y (λ e. other (ap Tree.leaf (sym e))))
ways-past x n u other = refl

-- the way from a bound variable is longer than that from its term
pub way-bound : (bound : Pairs) → Grown bound → (v : ℕ) (u : Tm) → bound_to v bound ≡ Some u → way bound (Tree.leaf v) ≡ suc (way bound u)
way-bound [] g v u h = cc
way-bound (p ∷ older) (fresh, out, g) v u h = by (eqb v p.0) refl (way-bound older g v u)
  where
    by : (c : Bool) → eqb v p.0 ≡ c → (bound_to v older ≡ Some u → way older (Tree.leaf v) ≡ suc (way older u)) → way (p ∷ older) (Tree.leaf v) ≡ suc (way (p ∷ older) u)
    by true e ih =
        let none : bound_to v older ≡ None = subst (λ w. bound_to w older ≡ None) (sym (eqb-true v p.0 e)) fresh in
        let known : Some p.1 ≡ Some u = sym (bound-newest p older v e) ∙ h in
        let term : p.1 ≡ u = cc in
        let there : ways p.0 (suc (way older p.1)) (walk older (Tree.leaf v)) ≡ suc (way older p.1) =
        ap (ways p.0 (suc (way older p.1))) (walk-unbound older v none) ∙ ap (λ c. if c then suc (way older p.1) else 0) (eqb-turn p.0 v ∙ e) in
        let past : ways p.0 (suc (way older p.1)) (walk older p.1) ≡ 0 = ways-past p.0 (suc (way older p.1)) (walk older p.1) (not_reached p older (fresh, out, g)) in
        subst (λ t. way (p ∷ older) (Tree.leaf v) ≡ suc (way (p ∷ older) t)) term (omega (arith, way-unbound older v none, there, past))
    by false e ih =
        let known = sym (bound-older p older v e) ∙ h in
        let same : ways p.0 (suc (way older p.1)) (walk older (Tree.leaf v)) ≡ ways p.0 (suc (way older p.1)) (walk older u) =
        ap (ways p.0 (suc (way older p.1))) (walk-bound older g v u known) in
        omega (arith, ih known, same)
