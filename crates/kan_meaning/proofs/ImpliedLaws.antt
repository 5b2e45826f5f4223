-- Each disequality that is left out since another one implies it is implied by one that is written.
use Rattle.std.proofs.Common.{◌≡◌, ◌⊎◌, ℕ, Bool, true, false, ◌&&◌, not, eqb, List, [], ◌∷◌, inl, inr, refl, sym, ap, subst, ◌∙◌, if◌then◌else◌}
use Rattle.std.specs.List.{list_any}
use Rattle.std.proofs.lemmas.Bool.{and_from, and_parts, eqb-true, or_from, both_ways, not-true, not_from_false, false_from_ne_true}
use Rattle.kan_terms.specs.Tree.{Tree, Gd, fill, term_eq}
use Rattle.kan_terms.proofs.TreeLaws.{eq-term_eq, term_eq-true}
use Rattle.kan_model.specs.Answers.Answer.{implies, is_weaker}
use Rattle.kan_model.specs.Stores.Solve.{Replacement, image, apply}
use Rattle.kan_model.specs.Each.{Each}
use Rattle.kan_model.proofs.Solving.UnifierLaws.{fill-apply}
use Rattle.kan_meaning.proofs.Instances.NamedValues.{PairHolds, holding_factors}

-- a list has an element, equal to a given one or greater, than which none is greater
module _ {X : Type 0} (greater : X → X → Bool) (itself : (x : X) → greater x x ≡ false)
    (through : (x y z : X) → greater x y ≡ true → greater y z ≡ true → greater x z ≡ true) (Good : X → Type 0) where
  pub record Greatest (x : X) (xs : List X) : Type 0 where
    pub top : X
    pub good : Good top
    pub reached : (top ≡ x) ⊎ (greater top x ≡ true)
    pub none : list_any (λ z. greater z top) xs ≡ false

  pub greatest : (xs : List X) → Each (λ z. (x : X) → Good x → greater z x ≡ true → Good z) xs → (x : X) → Good x → Greatest x xs
  greatest [] up x good = record { top = x; good = good; reached = inl refl; none = refl }
  greatest (z ∷ xs) (first, rest) x good = by (greatest xs rest x good) (λ above. greatest xs rest z above)
    where
      onward : (g : Greatest x xs) → greater z g.top ≡ true → Greatest z xs → Greatest x (z ∷ xs)
      onward g above h = record {
        top = h.top;
        good = h.good;
        reached = inr (from_z h.reached);
        none = or_from (greater z h.top) (list_any (λ y. greater y h.top) xs) (false_from_ne_true (greater z h.top) (λ e. both_ways (greater z z) (itself z) (round h.reached e))) h.none;
      }
        where
          z_above : greater z x ≡ true
          z_above = elim g.reached [
            | inl same ↦ subst (λ y. greater z y ≡ true) same above
            | inr more ↦ through z g.top x above more
          ]

          from_z : (h.top ≡ z) ⊎ (greater h.top z ≡ true) → greater h.top x ≡ true
          from_z (inl same) = subst (λ y. greater y x ≡ true) (sym same) z_above
          from_z (inr more) = through h.top z x more z_above

          round : (h.top ≡ z) ⊎ (greater h.top z ≡ true) → greater z h.top ≡ true → greater z z ≡ true
          round (inl same) e = subst (λ y. greater z y ≡ true) same e
          round (inr more) e = through z h.top z e more

      by : Greatest x xs → (Good z → Greatest z xs) → Greatest x (z ∷ xs)
      by g again = elim_on (greater z g.top) refl
        where
          elim_on : (c : Bool) → greater z g.top ≡ c → Greatest x (z ∷ xs)
          elim_on true e = onward g e (again (first g.top g.good e))
          elim_on false e = record { top = g.top; good = g.good; reached = g.reached; none = or_from (greater z g.top) (list_any (λ y. greater y g.top) xs) e g.none }

-- a form factors through another one that it implies
implied_factors : (a b : Replacement) → implies a b ≡ true → (v : ℕ) → image b v ≡ apply b (image a v)
implied_factors [] b h v = refl
implied_factors (p ∷ a) b h v =
    let (first, rest) = and_parts (term_eq (apply b (Tree.leaf p.var)) (apply b p.by)) (implies a b) h in
    by (eqb p.var v) refl (term_eq-true (apply b (Tree.leaf p.var)) (apply b p.by) first) (implied_factors a b rest v)
  where
    by : (c : Bool) → eqb p.var v ≡ c → image b p.var ≡ apply b p.by → image b v ≡ apply b (image a v) → image b v ≡ apply b (if c then p.by else image a v)
    by true same e ih = subst (λ x. image b x ≡ apply b p.by) (eqb-true p.var v same) e
    by false other e ih = ih

implies-through : (a b c : Replacement) → implies a b ≡ true → implies b c ≡ true → implies a c ≡ true
implies-through [] b c h k = refl
implies-through (p ∷ a) b c h k =
    let (first, rest) = and_parts (term_eq (apply b (Tree.leaf p.var)) (apply b p.by)) (implies a b) h in
    let same = term_eq-true (apply b (Tree.leaf p.var)) (apply b p.by) first in
    let factors = implied_factors b c k in
    and_from (term_eq (apply c (Tree.leaf p.var)) (apply c p.by)) (implies a c)
    (eq-term_eq (apply c (Tree.leaf p.var)) (apply c p.by)
    (sym (fill-apply (image c) b factors (Tree.leaf p.var)) ∙ ap (apply c) same ∙ fill-apply (image c) b factors p.by))
    (implies-through a b c rest k)

abbrev pub stronger : Replacement → Replacement → Bool
stronger other form = implies other form && not (implies form other)

stronger-itself : (g : Replacement) → stronger g g ≡ false
stronger-itself g = false_from_ne_true (stronger g g) (λ e. let (h, k) = and_parts (implies g g) (not (implies g g)) e in both_ways (implies g g) (not-true (implies g g) k) h)

stronger-through : (x y z : Replacement) → stronger x y ≡ true → stronger y z ≡ true → stronger x z ≡ true
stronger-through x y z h k =
    let (xy, _) = and_parts (implies x y) (not (implies y x)) h in
    let (yz, other) = and_parts (implies y z) (not (implies z y)) k in
    and_from (implies x z) (not (implies z x)) (implies-through x y z xy yz)
    (not_from_false (implies z x) (false_from_ne_true (implies z x) (λ e. both_ways (implies z y) (not-true (implies z y) other) (implies-through z x y e xy))))

-- where the pairs of a form hold, those of a form that implies it do
pub stronger_holds : (f : ℕ → Gd) (a b : Replacement) → implies a b ≡ true → Each (PairHolds f) b → Each (PairHolds f) a
stronger_holds f [] b h holds = tt
stronger_holds f (p ∷ a) b h holds =
    let (first, rest) = and_parts (term_eq (apply b (Tree.leaf p.var)) (apply b p.by)) (implies a b) h in
    let factors = holding_factors f b holds in (
      sym (fill-apply f b factors (Tree.leaf p.var)) ∙ ap (fill f) (term_eq-true (apply b (Tree.leaf p.var)) (apply b p.by) first) ∙ fill-apply f b factors p.by,
      stronger_holds f a b rest holds,
    )

-- where each form that isn't weaker than another has a pair that doesn't hold, each form has one
pub weaker_follow : (f : ℕ → Gd) (forms : List Replacement) → Each (λ g. is_weaker forms g ≡ false → Each (PairHolds f) g → ⊥) forms → Each (λ g. Each (PairHolds f) g → ⊥) forms
weaker_follow f forms strong = each forms strong
  where
    Strong : Replacement → Type 0
    Strong g = is_weaker forms g ≡ false → Each (PairHolds f) g → ⊥

    Good : Replacement → Type 0
    Good g = Strong g × Each (PairHolds f) g

    up : (zs : List Replacement) → Each Strong zs → Each (λ z. (x : Replacement) → Good x → stronger z x ≡ true → Good z) zs
    up [] h = tt
    up (z ∷ zs) (h, hs) = (λ x (_, holds) e. (h, stronger_holds f z x (and_parts (implies z x) (not (implies x z)) e).0 holds), up zs hs)

    none : (g : Replacement) → Strong g → Each (PairHolds f) g → ⊥
    none g h holds =
        let found = greatest stronger stronger-itself stronger-through Good forms (up forms strong) g (h, holds) in
        found.good.0 found.none found.good.1

    each : (zs : List Replacement) → Each Strong zs → Each (λ g. Each (PairHolds f) g → ⊥) zs
    each [] h = tt
    each (z ∷ zs) (h, hs) = (none z h, each zs hs)
