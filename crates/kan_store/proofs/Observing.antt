-- What a store's parts show is what its primitives say.
use Rattle.std.proofs.Common.{◌≡◌, ℕ, zero, suc, Bool, true, false, eqb, List, [], ◌∷◌, Contains, Option, Some, None, inl, inr, unwrap_or, sym, ap, ap₂, subst, refl, ◌∙◌, arith, if◌then◌else◌}
use Rattle.std.proofs.Math.Logic.{∥∥₁_elim, ∥∥₁_map, ∥∥₁_prop}
use Rattle.std.proofs.lemmas.Bool.{eq-eqb, eqb-true, or_cases, or_left, or_right, false_from_ne_true, true≢false}
use Rattle.std.proofs.lemmas.List.Elements.{Contains-append_right, Contains-append_cases}
use Rattle.kan_terms.specs.Tree.{Tree, Tm, occurs, term_eq}
use Rattle.kan_terms.specs.Bound.{bound_to}
use Rattle.kan_terms.specs.Valuations.{value}
use Rattle.kan_terms.proofs.TreeLaws.{term_eq-true, eq-term_eq}
use Rattle.kan_model.specs.Stores.Store.{Store}
use Rattle.kan_model.specs.Stores.Solve.{Replacement, image, apply}
use Rattle.kan_model.specs.Stores.Kept.{has_type}
use Rattle.kan_model.specs.Stores.Calls.{replacement_of, IsFoundFor, WalksTo, IsFree, kind_at, AreTags}
use Rattle.kan_model.specs.Answers.Answer.{has_absence}
use Rattle.kan_model.specs.declared.prims.Kind.{Kind}
use Rattle.kan_model.specs.declared.prims.Kind.TheVariants.{Symbol, Number, Text}
use Rattle.unify_core.specs.Walking.{Pairs, walk, full}
use Rattle.unify_core.proofs.GrowthLaws.{Grown}
use Rattle.unify_core.proofs.CycleLaws.{grown, no_cycle}
use Rattle.unify_core.proofs.WalkLaws.{full-walk, walk-end, walk-term}
use Rattle.unify_core.proofs.AnswerLaws.{full_unbound}
use Rattle.type_absence.specs.Tags.{is_listed}
use Rattle.type_absence.specs.Types.{same_kind}
use Rattle.diseq.specs.Kept.{AreWatched}
use Rattle.unify_core.specs.Cycles.{HasNoCycle}
use Rattle.kan_store.specs.Parts.{Parts, AreInStep}
use Rattle.kan_store.proofs.AddedLaws.{full-free}
use Rattle.kan_store.proofs.StepLaws.{test-known}
use Rattle.kan_store.proofs.TypesStep.{same_kind-true, same_kind-same}

-- a term, and an option of a type, that is known behind a truncation
term-known : (s t : Tm) → ∥ s ≡ t ∥₁ → s ≡ t
term-known s t h = term_eq-true s t (test-known (term_eq s t) true (∥∥₁_map h (eq-term_eq s t)))

abbrev same_option : Option Kind → Option Kind → Bool
same_option None None = true
same_option (Some k) (Some l) = same_kind k l
same_option _ _ = false

kind-known : (a b : Option Kind) → ∥ a ≡ b ∥₁ → a ≡ b
kind-known a b h = by a b (test-known (same_option a b) true (∥∥₁_map h (λ e. subst (λ c. same_option a c ≡ true) e (self a))))
  where
    self : (o : Option Kind) → same_option o o ≡ true
    self None = refl
    self (Some k) = same_kind-same k

    by : (a b : Option Kind) → same_option a b ≡ true → a ≡ b
    by None None e = refl
    by (Some k) (Some l) e = ap Some (same_kind-true k l e)
    by None (Some l) e = absurd (true≢false (sym e))
    by (Some k) None e = absurd (true≢false (sym e))

found-known : (s : Replacement) (i t : Tm) → ∥ IsFoundFor s i t ∥₁ → IsFoundFor s i t
found-known s (Tree.pair a b) (Tree.pair c d) h = term-known (apply s (Tree.pair c d)) (Tree.pair a b) h
found-known s (Tree.pair a b) (Tree.leaf v) h = absurd (∥∥₁_elim h (λ x y. absurd x) (λ x. x))
found-known s (Tree.pair a b) (Tree.sym v) h = absurd (∥∥₁_elim h (λ x y. absurd x) (λ x. x))
found-known s (Tree.pair a b) (Tree.str v) h = absurd (∥∥₁_elim h (λ x y. absurd x) (λ x. x))
found-known s (Tree.pair a b) (Tree.num v) h = absurd (∥∥₁_elim h (λ x y. absurd x) (λ x. x))
found-known s (Tree.pair a b) (Tree.truth v) h = absurd (∥∥₁_elim h (λ x y. absurd x) (λ x. x))
found-known s (Tree.pair a b) Tree.nil h = absurd (∥∥₁_elim h (λ x y. absurd x) (λ x. x))
found-known s (Tree.leaf v) t h = term-known t (Tree.leaf v) h
found-known s (Tree.sym v) t h = term-known t (Tree.sym v) h
found-known s (Tree.str v) t h = term-known t (Tree.str v) h
found-known s (Tree.num v) t h = term-known t (Tree.num v) h
found-known s (Tree.truth v) t h = term-known t (Tree.truth v) h
found-known s Tree.nil t h = term-known t Tree.nil h

walks-known : (s : Replacement) (t found : Tm) → ∥ WalksTo s t found ∥₁ → WalksTo s t found
walks-known s (Tree.leaf v) found h = found-known s (image s v) found h
walks-known s (Tree.sym v) found h = term-known found (Tree.sym v) h
walks-known s (Tree.str v) found h = term-known found (Tree.str v) h
walks-known s (Tree.num v) found h = term-known found (Tree.num v) h
walks-known s (Tree.truth v) found h = term-known found (Tree.truth v) h
walks-known s Tree.nil found h = term-known found Tree.nil h
walks-known s (Tree.pair a b) found h = term-known found (Tree.pair a b) h

-- bindings that grew pair by pair, known behind a truncation
none-known : (o : Option Tm) → ∥ o ≡ None ∥₁ → o ≡ None
none-known None h = refl
none-known (Some t) h = absurd (∥∥₁_elim h (λ x y. absurd x) (λ e. cc))

pub grown-known : (bound : Pairs) → ∥ Grown bound ∥₁ → Grown bound
grown-known [] h = tt
grown-known (p ∷ older) h = (
  none-known (bound_to p.0 older) (∥∥₁_map h (λ x. x.0)),
  test-known (occurs p.0 (full older p.1)) false (∥∥₁_map h (λ x. x.1)),
  grown-known older (∥∥₁_map h (λ x. x.2)),
)

-- tags as a list, and a test of them
contains-listed : (tag : ℕ) (tags : List ℕ) → Contains tags tag → is_listed tag tags ≡ true
contains-listed tag [] (k, low, is) = absurd (omega (arith, low))
contains-listed tag (o ∷ tags) c = elim (Contains-append_cases (o ∷ []) tags tag c) [
  | inl first ↦ or_left (eqb o tag) (is_listed tag tags) (eq-eqb o tag (only first))
  | inr rest ↦ or_right (eqb o tag) (is_listed tag tags) (contains-listed tag tags rest)
]
  where
    only : Contains (o ∷ []) tag → o ≡ tag
    only (zero, low, is) = is
    only (suc k, low, is) = absurd (omega (arith, low))

listed-contains : (tag : ℕ) (tags : List ℕ) → is_listed tag tags ≡ true → Contains tags tag
listed-contains tag [] h = absurd (true≢false (sym h))
listed-contains tag (o ∷ tags) h = elim (or_cases (eqb o tag) (is_listed tag tags) h) [
  | inl same ↦ (0, omega arith, eqb-true o tag same)
  | inr later ↦ Contains-append_right (o ∷ []) tags tag (listed-contains tag tags later)
]

-- two tests that pass together are the same
pub same_tests : (a b : Bool) → (a ≡ true → b ≡ true) → (b ≡ true → a ≡ true) → a ≡ b
same_tests true b f g = sym (f refl)
same_tests false true f g = g refl
same_tests false false f g = refl

module _ (parts : Parts) (st : Store) (step : AreInStep parts st) where
  abbrev s : Replacement
  s = step.answer

  g : Grown parts.bound
  g = grown parts.bound step.no_cycle

  pub answer_is : replacement_of st ≡ s
  answer_is = ap (λ o. unwrap_or o []) step.solved

  -- what a variable walks to stands for its image
  walk_variable : (v : ℕ) → IsFoundFor s (image s v) (walk parts.bound (Tree.leaf v))
  walk_variable v = by (walk parts.bound (Tree.leaf v)) refl (sym (step.fulls (Tree.leaf v)) ∙ sym (full-walk parts.bound g (Tree.leaf v)))
    where
      by : (w : Tm) → walk parts.bound (Tree.leaf v) ≡ w → image s v ≡ full parts.bound (walk parts.bound (Tree.leaf v)) → IsFoundFor s (image s v) (walk parts.bound (Tree.leaf v))
      by (Tree.leaf u) is value =
          let one : image s v ≡ Tree.leaf u = value ∙ ap (full parts.bound) is ∙ full-free parts.bound u (walk-end parts.bound g (Tree.leaf v) u is) in
          subst (λ i. IsFoundFor s i (walk parts.bound (Tree.leaf v))) (sym one) is
      by (Tree.sym u) is value = subst (λ i. IsFoundFor s i (walk parts.bound (Tree.leaf v))) (sym (value ∙ ap (full parts.bound) is)) is
      by (Tree.str u) is value = subst (λ i. IsFoundFor s i (walk parts.bound (Tree.leaf v))) (sym (value ∙ ap (full parts.bound) is)) is
      by (Tree.num u) is value = subst (λ i. IsFoundFor s i (walk parts.bound (Tree.leaf v))) (sym (value ∙ ap (full parts.bound) is)) is
      by (Tree.truth u) is value = subst (λ i. IsFoundFor s i (walk parts.bound (Tree.leaf v))) (sym (value ∙ ap (full parts.bound) is)) is
      by Tree.nil is value = subst (λ i. IsFoundFor s i (walk parts.bound (Tree.leaf v))) (sym (value ∙ ap (full parts.bound) is)) is
      by (Tree.pair c d) is value =
          subst (λ i. IsFoundFor s i (walk parts.bound (Tree.leaf v))) (sym (value ∙ ap (full parts.bound) is))
          (subst (λ w. IsFoundFor s (full parts.bound (Tree.pair c d)) w) (sym is) (sym (step.fulls (Tree.pair c d))))

  walk_by : (t : Tm) → WalksTo s t (walk parts.bound t)
  walk_by (Tree.leaf v) = walk_variable v
  walk_by (Tree.sym v) = walk-term parts.bound (Tree.sym v) (λ y e. cc)
  walk_by (Tree.str v) = walk-term parts.bound (Tree.str v) (λ y e. cc)
  walk_by (Tree.num v) = walk-term parts.bound (Tree.num v) (λ y e. cc)
  walk_by (Tree.truth v) = walk-term parts.bound (Tree.truth v) (λ y e. cc)
  walk_by Tree.nil = walk-term parts.bound Tree.nil (λ y e. cc)
  walk_by (Tree.pair a b) = walk-term parts.bound (Tree.pair a b) (λ y e. cc)

  pub walk_shows : (t : Tm) → WalksTo (replacement_of st) t (walk parts.bound t)
  walk_shows t = subst (λ r. WalksTo r t (walk parts.bound t)) (sym answer_is) (walk_by t)

  -- a variable that stands for itself isn't bound
  free_unbound : (v : ℕ) → IsFree st v → bound_to v parts.bound ≡ None
  free_unbound v free =
      let is : full parts.bound (Tree.leaf v) ≡ Tree.leaf v = step.fulls (Tree.leaf v) ∙ ap (λ r. image r v) (sym answer_is) ∙ free in
      full_unbound parts.bound g (Tree.leaf v) v (subst (λ t. occurs v t ≡ true) (sym is) (eq-eqb v v refl))

  pub kind_shows : (v : ℕ) → IsFree st v → parts.types v ≡ kind_at st v
  kind_shows v free = by (parts.types v) refl
    where
      at : (k : Kind) → (parts.types v ≡ Some k → has_type k (replacement_of st) st.prims v ≡ true) × (has_type k (replacement_of st) st.prims v ≡ true → parts.types v ≡ Some k)
      at k = subst (λ r. (parts.types v ≡ Some k → has_type k r st.prims v ≡ true) × (has_type k r st.prims v ≡ true → parts.types v ≡ Some k)) (sym answer_is) (step.typed v (free_unbound v free) k)

      lacks : (o : Option Kind) (k : Kind) → parts.types v ≡ o → (o ≡ Some k → ⊥) → has_type k (replacement_of st) st.prims v ≡ false
      lacks o k e other = false_from_ne_true (has_type k (replacement_of st) st.prims v) (λ has. other (sym e ∙ (at k).1 has))

      choose : (a b c : Bool) → Option Kind
      choose a b c = if a then Some Symbol else (if b then Some Number else (if c then Some Text else None))

      by : (o : Option Kind) → parts.types v ≡ o → parts.types v ≡ kind_at st v
      by None e = e ∙ sym (ap₂ (λ a b. choose a b (has_type Text (replacement_of st) st.prims v)) (lacks None Symbol e (λ i. cc)) (lacks None Number e (λ i. cc)) ∙ ap (choose false false) (lacks None Text e (λ i. cc)))
      by (Some Symbol) e = e ∙ sym (ap (λ a. choose a (has_type Number (replacement_of st) st.prims v) (has_type Text (replacement_of st) st.prims v)) ((at Symbol).0 e))
      by (Some Number) e = e ∙ sym (ap₂ (λ a b. choose a b (has_type Text (replacement_of st) st.prims v)) (lacks (Some Number) Symbol e (λ i. cc)) ((at Number).0 e))
      by (Some Text) e = e ∙ sym (ap₂ (λ a b. choose a b (has_type Text (replacement_of st) st.prims v)) (lacks (Some Text) Symbol e (λ i. cc)) (lacks (Some Text) Number e (λ i. cc)) ∙ ap (choose false false) ((at Text).0 e))

  pub tag_shows : (v : ℕ) → IsFree st v → (tag : ℕ) → is_listed tag (parts.tags v) ≡ has_absence (replacement_of st) st.prims tag v
  tag_shows v free tag =
      let (there, back) = step.tagged v (free_unbound v free) tag in
      same_tests (is_listed tag (parts.tags v)) (has_absence s st.prims tag v) there back ∙ ap (λ r. has_absence r st.prims tag v) (sym answer_is)

pub tags_show : (st : Store) (v : ℕ) (tags : List ℕ) → ((tag : ℕ) → is_listed tag tags ≡ has_absence (replacement_of st) st.prims tag v) → AreTags st v tags
tags_show st v tags same tag = (λ c. sym (same tag) ∙ contains-listed tag tags c, λ has. listed-contains tag tags (same tag ∙ has))

-- what holds behind a truncation
module _ (parts : Parts) (st : Store) (step : ∥ AreInStep parts st ∥₁) where
  pub walk_known : (t : Tm) → WalksTo (replacement_of st) t (walk parts.bound t)
  walk_known t = walks-known (replacement_of st) t (walk parts.bound t) (∥∥₁_map step (λ i. walk_shows parts st i t))

  pub kind_known : (v : ℕ) → IsFree st v → parts.types v ≡ kind_at st v
  kind_known v free = kind-known (parts.types v) (kind_at st v) (∥∥₁_map step (λ i. kind_shows parts st i v free))

  pub tags_known : (v : ℕ) → IsFree st v → (tags : List ℕ) → tags ≡ parts.tags v → AreTags st v tags
  tags_known v free tags is = tags_show st v tags (λ tag. ap (is_listed tag) is
      ∙ test-known (is_listed tag (parts.tags v)) (has_absence (replacement_of st) st.prims tag v) (∥∥₁_map step (λ i. tag_shows parts st i v free tag)))

  pub no_cycle_known : HasNoCycle parts.bound
  no_cycle_known = no_cycle parts.bound (grown-known parts.bound (∥∥₁_map step (λ i. grown parts.bound i.no_cycle)))

  pub watched_known : AreWatched parts.bound parts.lists.asserted parts.lists.watching
  watched_known = ∥∥₁_elim step ∥∥₁_prop (λ i. i.watched)
