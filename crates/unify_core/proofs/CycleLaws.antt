-- Bindings without a cycle are those that grew pair by pair.
use Rattle.std.proofs.Common.{◌≡◌, ℕ, suc, ◌+◌, ◌<◌, ◌≤◌, max, Bool, true, false, eqb, [], ◌∷◌, Some, None, inl, inr, sym, ap, subst, refl, ◌∙◌, arith, if◌then◌else◌}
use Rattle.std.proofs.lemmas.Bool.{eq-eqb, eqb-true, or_cases, false_from_ne_true, both_ways}
use Rattle.kan_terms.specs.Tree.{Tree, Tm, occurs}
use Rattle.kan_terms.specs.Bound.{bound_to}
use Rattle.kan_terms.proofs.TreeLaws.{occurs-fill, fill-occurs}
use Rattle.unify_core.specs.Walking.{Pairs, ends, full}
use Rattle.unify_core.specs.Cycles.{BoundOnce, HasNoCycle}
use Rattle.unify_core.proofs.GrowthLaws.{Grown, full-newest, bound-newest, bound-older, ends-unbound, ends-bound}

-- each variable of a term has a lower rank than the variable that is bound to the term
abbrev pub Falls : (ℕ → ℕ) → Pairs → Type 0
Falls rank bound = (x y : ℕ) (t : Tm) → bound_to x bound ≡ Some t → occurs y t ≡ true → rank y < rank x

-- ranks that fall along all pairs fall along the older ones
pub falls_older : (rank : ℕ → ℕ) (p : ℕ × Tm) (older : Pairs) → bound_to p.0 older ≡ None → Falls rank (p ∷ older) → Falls rank older
falls_older rank p older fresh falls x y t h inside = by (eqb x p.0) refl
  where
    by : (c : Bool) → eqb x p.0 ≡ c → rank y < rank x
    by true e = let none : Some t ≡ None = sym h ∙ ap (λ v. bound_to v older) (eqb-true x p.0 e) ∙ fresh in cc
    by false e = falls x y t (bound-older p older x e ∙ h) inside

-- a variable of a full value has no higher rank than some variable of the term
pub ranked : (rank : ℕ → ℕ) (bound : Pairs) → BoundOnce bound → Falls rank bound → (u : Tm) (y : ℕ) → occurs y (full bound u) ≡ true →
    (z : ℕ) × (occurs z u ≡ true) × (rank y ≤ rank z)
ranked rank [] once falls u y inside =
    let (z, in_u, same) = occurs-fill y Tree.leaf u inside in (z, in_u, omega (arith, ap rank (eqb-true y z same)))
ranked rank (p ∷ older) (fresh, once) falls u y inside =
    let (z, there, in_z) = occurs-fill y (λ v. if eqb p.0 v then full older p.1 else Tree.leaf v) (full older u) (subst (λ w. occurs y w ≡ true) (full-newest p older u) inside) in
    by z (eqb p.0 z) refl in_z (ranked rank older once (falls_older rank p older fresh falls) u z there) (ranked rank older once (falls_older rank p older fresh falls) p.1 y)
  where
    by : (z : ℕ) (c : Bool) → eqb p.0 z ≡ c → occurs y (if c then full older p.1 else Tree.leaf z) ≡ true →
        (w : ℕ) × (occurs w u ≡ true) × (rank z ≤ rank w) →
        (occurs y (full older p.1) ≡ true → (w : ℕ) × (occurs w p.1 ≡ true) × (rank y ≤ rank w)) →
        (w : ℕ) × (occurs w u ≡ true) × (rank y ≤ rank w)
    by z true e in_t (w, in_u, le) of_term =
        let (v, in_v, low) = of_term in_t in
        (w, in_u, omega (arith, falls p.0 v p.1 (bound-newest p older p.0 (eq-eqb p.0 p.0 refl)) in_v, low, le, ap rank (eqb-true p.0 z e)))
    by z false e same (w, in_u, le) of_term = (w, in_u, omega (arith, ap rank (eqb-true y z same), le))

-- bindings along which a rank falls grew pair by pair
pub grown_by_rank : (rank : ℕ → ℕ) (bound : Pairs) → BoundOnce bound → Falls rank bound → Grown bound
grown_by_rank rank [] once falls = tt
grown_by_rank rank (p ∷ older) (fresh, once) falls = (
  fresh,
  false_from_ne_true (occurs p.0 (full older p.1)) (λ inside.
      let (z, in_t, low) = ranked rank older once (falls_older rank p older fresh falls) p.1 p.0 inside in
      absurd (omega (arith, falls p.0 z p.1 (bound-newest p older p.0 (eq-eqb p.0 p.0 refl)) in_t, low))),
  grown_by_rank rank older once (falls_older rank p older fresh falls),
)

pub grown : (bound : Pairs) → HasNoCycle bound → Grown bound
grown bound h = grown_by_rank h.rank bound h.once h.falls

-- a number above the ranks of a term's variables
abbrev top : (ℕ → ℕ) → Tm → ℕ
top rank (Tree.leaf v) = suc (rank v)
top rank (Tree.sym s) = 0
top rank (Tree.str s) = 0
top rank (Tree.num n) = 0
top rank (Tree.truth b) = 0
top rank Tree.nil = 0
top rank (Tree.pair a b) = max (top rank a) (top rank b)

top_above : (rank : ℕ → ℕ) (y : ℕ) (t : Tm) → occurs y t ≡ true → rank y < top rank t
top_above rank y (Tree.leaf v) inside = omega (arith, ap rank (eqb-true y v inside))
top_above rank y (Tree.sym s) inside = cc
top_above rank y (Tree.str s) inside = cc
top_above rank y (Tree.num n) inside = cc
top_above rank y (Tree.truth b) inside = cc
top_above rank y Tree.nil inside = cc
top_above rank y (Tree.pair a b) inside =
    elim (or_cases (occurs y a) (occurs y b) inside) [
      | inl in_a ↦ omega (arith, top_above rank y a in_a)
      | inr in_b ↦ omega (arith, top_above rank y b in_b)
    ]

-- a number where a test says so
abbrev where_true : Bool → ℕ → ℕ
where_true true n = n
where_true false n = 0

-- a rank that falls: those variables from which the newest one is reached get a higher one
abbrev rank_of : Pairs → ℕ → ℕ
rank_of [] v = 0
rank_of (p ∷ older) v = rank_of older v + where_true (occurs p.0 (ends older v)) (top (rank_of older) p.1)

more_where : (a b : Bool) (n : ℕ) → (a ≡ true → b ≡ true) → where_true a n ≤ where_true b n
more_where true b n h = omega (arith, ap (λ c. where_true c n) (h refl))
more_where false b n h = omega arith

falls_of : (bound : Pairs) → Grown bound → Falls (rank_of bound) bound
falls_of [] g x y t h inside = cc
falls_of (p ∷ older) (fresh, out, g) x y t h inside = by (eqb x p.0) refl (falls_of older g x y t)
  where
    high : ℕ
    high = top (rank_of older) p.1

    by : (c : Bool) → eqb x p.0 ≡ c → (bound_to x older ≡ Some t → occurs y t ≡ true → rank_of older y < rank_of older x) → rank_of (p ∷ older) y < rank_of (p ∷ older) x
    by true e ih =
        let same : x ≡ p.0 = eqb-true x p.0 e in
        let known : Some p.1 ≡ Some t = sym (bound-newest p older x e) ∙ h in
        let term : t ≡ p.1 = cc in
        let in_term : occurs y p.1 ≡ true = subst (λ u. occurs y u ≡ true) term inside in
        let not_in : occurs p.0 (ends older y) ≡ false =
        false_from_ne_true (occurs p.0 (ends older y)) (λ i. both_ways (occurs p.0 (full older p.1)) out (fill-occurs p.0 y (ends older) p.1 in_term i)) in
        let itself : ends older x ≡ Tree.leaf x = ends-unbound older x (ap (λ v. bound_to v older) same ∙ fresh) in
        let own : occurs p.0 (ends older x) ≡ true = ap (occurs p.0) itself ∙ eq-eqb p.0 x (sym same) in
        omega (arith, top_above (rank_of older) y p.1 in_term, ap (λ c. where_true c high) not_in, ap (λ c. where_true c high) own)
    by false e ih =
        let known : bound_to x older ≡ Some t = sym (bound-older p older x e) ∙ h in
        omega (
          arith,
          ih known inside,
          more_where (occurs p.0 (ends older y)) (occurs p.0 (ends older x)) high
              (λ i. ap (occurs p.0) (ends-bound older g x t known) ∙ fill-occurs p.0 y (ends older) t inside i),
        )

once_of : (bound : Pairs) → Grown bound → BoundOnce bound
once_of [] g = tt
once_of (p ∷ older) (fresh, out, g) = (fresh, once_of older g)

-- bindings that grew pair by pair have no cycle
pub no_cycle : (bound : Pairs) → Grown bound → HasNoCycle bound
no_cycle bound g = record { once = once_of bound g; rank = rank_of bound; falls = falls_of bound g }

-- no bindings have no cycle, and so have those that are made of others for a variable that wasn't bound and doesn't stand in its term
pub no_cycle_empty : (bound : Pairs) → bound ≡ [] → HasNoCycle bound
no_cycle_empty bound empty = subst HasNoCycle (sym empty) (no_cycle [] tt)
