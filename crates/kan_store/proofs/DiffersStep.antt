-- Disequalities keep in step with a store when bindings are added.
use Rattle.std.proofs.Common.{◌≡◌, true, false, List, [], ◌∷◌, ◌⊎◌, inl, inr, sym, subst, refl, ◌∙◌}
use Rattle.std.specs.List.{list_any}
use Rattle.std.proofs.lemmas.Bool.{and_parts, and_from, or_cases, or_parts, false_from_ne_true, true≢false}
use Rattle.kan_terms.specs.Tree.{Tm, term_eq}
use Rattle.kan_terms.proofs.TreeLaws.{term_eq-true, eq-term_eq}
use Rattle.kan_model.specs.Programs.Goals.{Primitive}
use Rattle.kan_model.specs.Stores.Solve.{Replacement, apply}
use Rattle.kan_model.specs.Stores.Unifiers.{Unifies}
use Rattle.unify_core.specs.Walking.{Pairs, ends, full}
use Rattle.unify_core.proofs.GrowthLaws.{Grown}
use Rattle.diseq.specs.Disequalities.{Disequality, is_identical, has_same_sides, Brought}
use Rattle.kan_store.specs.AskedDifferences.{asked_differences}
use Rattle.diseq.specs.Among.{Among}
use Rattle.kan_store.proofs.AddedLaws.{ends-solve}

-- a disequality is identical exactly where full values make its sides the same
pub identical-unifies : (bound : Pairs) (es : Disequality) → is_identical bound es ≡ true → Unifies (ends bound) es
identical-unifies bound [] h = tt
identical-unifies bound (e ∷ es) h =
    let (first, rest) = and_parts (has_same_sides bound e) (is_identical bound es) h in
    (term_eq-true (full bound e.left) (full bound e.right) first, identical-unifies bound es rest)

pub unifies-identical : (bound : Pairs) (es : Disequality) → Unifies (ends bound) es → is_identical bound es ≡ true
unifies-identical bound [] u = refl
unifies-identical bound (e ∷ es) (same, u) =
    and_from (has_same_sides bound e) (is_identical bound es) (eq-term_eq (full bound e.left) (full bound e.right) same) (unifies-identical bound es u)

module _ (bound : Pairs) (g : Grown bound) where
  -- where none that is left is identical, none of those that it stands for is
  pub none_identical : (old new : List Disequality) → Brought bound old new → list_any (is_identical bound) new ≡ false → (es : Disequality) → Among es old → is_identical bound es ≡ false
  none_identical old new Brought.none_left h es none = absurd none
  none_identical old new (Brought.listed {es = first} {fs = fs} {old = more} {new = left} says d) h es (inl is) =
      false_from_ne_true (is_identical bound es) (λ identical.
      (let there = (says (ends bound) (ends-solve bound g)).0 (identical-unifies bound first (subst (λ x. is_identical bound x ≡ true) (sym is) identical)) in
      true≢false (sym (unifies-identical bound fs there) ∙ (or_parts (is_identical bound fs) (list_any (is_identical bound) left) h).0)))
  none_identical old new (Brought.listed {es = first} {fs = fs} {old = more} {new = left} says d) h es (inr a) =
      none_identical more left d (or_parts (is_identical bound fs) (list_any (is_identical bound) left) h).1 es a
  none_identical old new (Brought.left_out {es = first} {old = more} {new = left} never d) h es (inl is) =
      false_from_ne_true (is_identical bound es) (λ identical.
      never (ends bound) (ends-solve bound g) (identical-unifies bound first (subst (λ x. is_identical bound x ≡ true) (sym is) identical)))
  none_identical old new (Brought.left_out {es = first} {old = more} {new = left} never d) h es (inr a) = none_identical more left d h es a

  -- and where one is, one of those is
  pub one_identical : (old new : List Disequality) → Brought bound old new → list_any (is_identical bound) new ≡ true → (es : Disequality) × Among es old × (is_identical bound es ≡ true)
  one_identical old new Brought.none_left h = absurd (true≢false (sym h))
  one_identical old new (Brought.listed {es = first} {fs = fs} {old = more} {new = left} says d) h =
      by (or_cases (is_identical bound fs) (list_any (is_identical bound) left) h) (one_identical more left d)
    where
      by : (is_identical bound fs ≡ true) ⊎ (list_any (is_identical bound) left ≡ true) → (list_any (is_identical bound) left ≡ true → (es : Disequality) × Among es more × (is_identical bound es ≡ true)) →
          (es : Disequality) × Among es (first ∷ more) × (is_identical bound es ≡ true)
      by (inl here) later = (first, inl refl, unifies-identical bound first ((says (ends bound) (ends-solve bound g)).1 (identical-unifies bound fs here)))
      by (inr there) later = let (es, a, is) = later there in (es, inr a, is)
  one_identical old new (Brought.left_out {es = first} {old = more} {new = left} never d) h =
      let (es, a, is) = one_identical more left d h in (es, inr a, is)

-- a disequality of a store is one of those that it asks
pub among-asked_differences : (ps : List (Primitive Tm)) (a b : Tm) → Among (Primitive.differ a b) ps → Among (record { left = a; right = b } ∷ []) (asked_differences ps)
among-asked_differences [] a b none = absurd none
among-asked_differences (p ∷ ps) a b (inl is) = subst (λ q. Among (record { left = a; right = b } ∷ []) (asked_differences (q ∷ ps))) (sym is) (inl refl)
among-asked_differences (Primitive.differ c d ∷ ps) a b (inr m) = inr (among-asked_differences ps a b m)
among-asked_differences (Primitive.same c d ∷ ps) a b (inr m) = among-asked_differences ps a b m
among-asked_differences (Primitive.symbol c ∷ ps) a b (inr m) = among-asked_differences ps a b m
among-asked_differences (Primitive.number c ∷ ps) a b (inr m) = among-asked_differences ps a b m
among-asked_differences (Primitive.text c ∷ ps) a b (inr m) = among-asked_differences ps a b m
among-asked_differences (Primitive.absent t c ∷ ps) a b (inr m) = among-asked_differences ps a b m

abbrev pub IsAsked : List (Primitive Tm) → Disequality → Type 0
IsAsked ps es = (a : Tm) × (b : Tm) × Among (Primitive.differ a b) ps × (es ≡ record { left = a; right = b } ∷ [])

pub asked_differences-among : (ps : List (Primitive Tm)) (es : Disequality) → Among es (asked_differences ps) → IsAsked ps es
asked_differences-among [] es none = absurd none
asked_differences-among (Primitive.differ c d ∷ ps) es (inl is) = (c, d, inl refl, sym is)
asked_differences-among (Primitive.differ c d ∷ ps) es (inr m) = let (a, b, among, is) = asked_differences-among ps es m in (a, b, inr among, is)
asked_differences-among (Primitive.same c d ∷ ps) es m = let (a, b, among, is) = asked_differences-among ps es m in (a, b, inr among, is)
asked_differences-among (Primitive.symbol c ∷ ps) es m = let (a, b, among, is) = asked_differences-among ps es m in (a, b, inr among, is)
asked_differences-among (Primitive.number c ∷ ps) es m = let (a, b, among, is) = asked_differences-among ps es m in (a, b, inr among, is)
asked_differences-among (Primitive.text c ∷ ps) es m = let (a, b, among, is) = asked_differences-among ps es m in (a, b, inr among, is)
asked_differences-among (Primitive.absent t c ∷ ps) es m = let (a, b, among, is) = asked_differences-among ps es m in (a, b, inr among, is)

-- no disequality of the store has identical sides
abbrev pub DiffersAllowed : Replacement → List (Primitive Tm) → Type 0
DiffersAllowed s ps = (a b : Tm) → Among (Primitive.differ a b) ps → term_eq (apply s a) (apply s b) ≡ false

module _ (bound : Pairs) (g : Grown bound) (s : Replacement) (makes : (t : Tm) → full bound t ≡ apply s t) (ps : List (Primitive Tm)) (lists : List Disequality) (brought : Brought bound (asked_differences ps) lists) where
  pub differs_allowed : list_any (is_identical bound) lists ≡ false → DiffersAllowed s ps
  differs_allowed h a b among = false_from_ne_true (term_eq (apply s a) (apply s b)) (λ same.
      true≢false (sym (unifies-identical bound (record { left = a; right = b } ∷ []) (makes a ∙ term_eq-true (apply s a) (apply s b) same ∙ sym (makes b), tt))
      ∙ none_identical bound g (asked_differences ps) lists brought h (record { left = a; right = b } ∷ []) (among-asked_differences ps a b among)))

  pub differs_fail : list_any (is_identical bound) lists ≡ true → DiffersAllowed s ps → ⊥
  differs_fail h allowed =
      let (es, m, identical) = one_identical bound g (asked_differences ps) lists brought h in
      let (a, b, among, is) = asked_differences-among ps es m in
      let (same, _) = identical-unifies bound (record { left = a; right = b } ∷ []) (subst (λ x. is_identical bound x ≡ true) is identical) in
      true≢false (sym (eq-term_eq (apply s a) (apply s b) (sym (makes a) ∙ same ∙ makes b)) ∙ allowed a b among)
