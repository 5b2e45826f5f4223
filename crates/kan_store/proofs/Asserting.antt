-- What is asserted keeps a store's parts in step with its primitives, or the longer store isn't kept.
use Rattle.std.proofs.Common.{◌≡◌, ℕ, Bool, true, false, not, ◌||◌, eqb, List, [], ◌∷◌, ◌++◌, map, Some, None, inl, inr, sym, ap, ap₂, subst, refl, ◌∙◌}
use Rattle.std.specs.List.{list_all, list_any}
use Rattle.std.proofs.lemmas.Bool.{eq-eqb, eqb-true, false_from_ne_true, true≢false, or_left, or_cases}
use Rattle.std.proofs.lemmas.List.{map-append, append-nil}
use Rattle.kan_terms.specs.Tree.{Tree, Tm, has_symbol, occurs, term_eq}
use Rattle.kan_terms.specs.Bound.{bound_to}
use Rattle.kan_model.specs.Programs.Goals.{Primitive}
use Rattle.kan_model.specs.Stores.Store.{Store, Equation, equations, with_prim}
use Rattle.kan_model.specs.Stores.Solve.{Replacement, apply, solve, solve_store}
use Rattle.kan_model.specs.Stores.Kept.{may_be, allows, has_type, holds_with, is_kept}
use Rattle.kan_model.specs.Stores.Calls.{differences}
use Rattle.kan_model.specs.Answers.Answer.{has_absence}
use Rattle.kan_model.specs.declared.prims.Kind.{Kind}
use Rattle.kan_model.specs.declared.prims.Kind.TheVariants.{Symbol, Number, Text}
use Rattle.kan_model.proofs.Solving.FreshLaws.{equations-append}
use Rattle.unify_core.specs.Walking.{Pairs, walk, full}
use Rattle.unify_core.specs.Solutions.{AddedTo}
use Rattle.unify_core.specs.Unifying.{Unifying}
use Rattle.unify_core.proofs.GrowthLaws.{Grown}
use Rattle.unify_core.specs.Cycles.{HasNoCycle}
use Rattle.unify_core.proofs.CycleLaws.{grown}
use Rattle.unify_core.proofs.WalkLaws.{full-walk, walk-end}
use Rattle.type_absence.specs.Types.{Types, GivesTypes, same_kind}
use Rattle.type_absence.specs.Absent.{TagsOf, GivesTag, GivesTags}
use Rattle.diseq.specs.Disequalities.{Disequality, Brought, is_identical}
use Rattle.diseq.specs.Kept.{AreWatched, Disequalities}
use Rattle.kan_store.specs.AskedDifferences.{asked_differences}
use Rattle.kan_store.specs.InStep.{InStep, TypesInStep, TagsInStep}
use Rattle.kan_store.specs.Moving.{TypesMove, TagsMove}
use Rattle.kan_store.proofs.Along.{goes_along, ends_along}
use Rattle.diseq.proofs.AmongLaws.{among-left, among-last, among-cases}
use Rattle.kan_store.proofs.KeptParts.{all-among, all-from, typing, has_type-from, has_type-asked, has_absence-from, has_absence-asked, Allowed, OneType, holds-parts, holds-from}
use Rattle.kan_store.proofs.TypesStep.{TypesAllowed, types_allowed, types_step, types_stop, move_keeps, move_puts, move_may, move_cases, move_stuck, Stuck, same_kind-same, may_be-full, full-variable}
use Rattle.kan_store.proofs.TagsStep as of_tags
use Rattle.kan_store.proofs.TagsStep.{TagsAllowed, tags_step, tags_stop}
use Rattle.diseq.specs.Laws.{BringingGoesOn}
use Rattle.type_absence.specs.Tags.{is_listed}
use Rattle.kan_store.proofs.AddedLaws.{full-free}
use Rattle.kan_store.proofs.DiffersStep.{DiffersAllowed, differs_allowed, differs_fail}

-- a store is kept where it is solved, each primitive is allowed and no variable has two types
pub kept_from : (st : Store) (s : Replacement) → solve_store st ≡ Some s → Allowed s st.prims → OneType s st.prims → is_kept st ≡ true
kept_from st s h allowed one = ap (holds_with st.prims) h ∙ holds-from s st.prims allowed one

pub kept_parts : (st : Store) (s : Replacement) → solve_store st ≡ Some s → is_kept st ≡ true → Allowed s st.prims × OneType s st.prims
kept_parts st s h kept = holds-parts s st.prims (sym (ap (holds_with st.prims) h) ∙ kept)

pub not_kept : (st : Store) (s : Replacement) → solve_store st ≡ Some s → (Allowed s st.prims → OneType s st.prims → ⊥) → is_kept st ≡ false
not_kept st s h never = false_from_ne_true (is_kept st) (λ kept. (let (allowed, one) = kept_parts st s h kept in never allowed one))

-- a store whose parts are in step
module _ (bound : Pairs) (types : Types) (tags : TagsOf) (lists : Disequalities) (st : Store) (step : InStep bound types tags lists st) where
  abbrev pub s : Replacement
  s = step.answer

  pub g : Grown bound
  g = grown bound step.no_cycle

  pub allowed : Allowed s st.prims
  allowed = all-among (allows s) st.prims step.allowed

  pub tags_allowed : TagsAllowed s st.prims
  tags_allowed tag a among = by (has_symbol tag (apply s a)) (allowed (Primitive.absent tag a) among)
    where
      by : (c : Bool) → not c ≡ true → c ≡ false
      by true h = absurd (true≢false (sym h))
      by false h = refl

  -- a variable that has a type isn't bound, so it has no other one
  typed_free : (k : Kind) (v : ℕ) → has_type k s st.prims v ≡ true → bound_to v bound ≡ None
  typed_free k v has =
      let (a, among, is) = has_type-asked s st.prims k v has in by a is (full-variable bound (walk bound a) v (full-walk bound g a ∙ step.fulls a ∙ is))
    where
      by : (a : Tm) → apply s a ≡ Tree.leaf v → (u : ℕ) × (walk bound a ≡ Tree.leaf u) → bound_to v bound ≡ None
      by a is (u, walks) =
          let free = walk-end bound g a u walks in
          let one : Tree.leaf u ≡ Tree.leaf v = sym (full_leaf u free) ∙ ap (full bound) (sym walks) ∙ full-walk bound g a ∙ step.fulls a ∙ is in
          let same : u ≡ v = cc in
          subst (λ w. bound_to w bound ≡ None) same free
        where
          full_leaf : (u : ℕ) → bound_to u bound ≡ None → full bound (Tree.leaf u) ≡ Tree.leaf u
          full_leaf u free = full-free bound u free

  pub one_type : OneType s st.prims
  one_type v k l has other =
      let free = typed_free k v has in
      let both : Some k ≡ Some l = sym ((step.typed v free k).1 has) ∙ (step.typed v free l).1 other in
      cc

  pub kept : is_kept st ≡ true
  kept = kept_from st s step.solved allowed one_type

-- with one primitive more, of which nothing is asked here
types_more : (bound : Pairs) (types : Types) (s : Replacement) (ps : List (Primitive Tm)) (p : Primitive Tm) → ((k : Kind) (a : Tm) → typing k a ≡ p → ⊥) →
    TypesInStep bound types s ps → TypesInStep bound types s (ps ++ p ∷ [])
types_more bound types s ps p other step v free k = (
  λ has. (let (a, among, is) = has_type-asked s ps k v ((step v free k).0 has) in has_type-from s (ps ++ p ∷ []) k v a (among-left (typing k a) ps (p ∷ []) among) is),
  λ has. (let (a, among, is) = has_type-asked s (ps ++ p ∷ []) k v has in elim (among-cases (typing k a) p ps among) [
    | inl before ↦ (step v free k).1 (has_type-from s ps k v a before is)
    | inr last ↦ absurd (other k a last)
  ]),
)

tags_more : (bound : Pairs) (tags : TagsOf) (s : Replacement) (ps : List (Primitive Tm)) (p : Primitive Tm) → ((tag : ℕ) (a : Tm) → Primitive.absent tag a ≡ p → ⊥) →
    TagsInStep bound tags s ps → TagsInStep bound tags s (ps ++ p ∷ [])
tags_more bound tags s ps p other step v free tag = (
  λ listed. (let (a, among, there) = has_absence-asked s ps tag v ((step v free tag).0 listed) in has_absence-from s (ps ++ p ∷ []) tag v a (among-left (Primitive.absent tag a) ps (p ∷ []) among) there),
  λ has. (let (a, among, there) = has_absence-asked s (ps ++ p ∷ []) tag v has in elim (among-cases (Primitive.absent tag a) p ps among) [
    | inl before ↦ (step v free tag).1 (has_absence-from s ps tag v a before there)
    | inr last ↦ absurd (other tag a last)
  ]),
)

allowed_more : (s : Replacement) (ps : List (Primitive Tm)) (p : Primitive Tm) → Allowed s ps → allows s p ≡ true → list_all (allows s) (ps ++ p ∷ []) ≡ true
allowed_more s ps p allowed last = all-from (allows s) (ps ++ p ∷ []) (λ q among. elim (among-cases q p ps among) [
  | inl before ↦ allowed q before
  | inr is ↦ ap (allows s) is ∙ last
])

allowed_before : (s : Replacement) (ps : List (Primitive Tm)) (p : Primitive Tm) → Allowed s (ps ++ p ∷ []) → Allowed s ps
allowed_before s ps p allowed q among = allowed q (among-left q ps (p ∷ []) among)

has_before : (s : Replacement) (ps : List (Primitive Tm)) (p : Primitive Tm) (k : Kind) (v : ℕ) → has_type k s ps v ≡ true → has_type k s (ps ++ p ∷ []) v ≡ true
has_before s ps p k v has = let (a, among, is) = has_type-asked s ps k v has in has_type-from s (ps ++ p ∷ []) k v a (among-left (typing k a) ps (p ∷ []) among) is

one_before : (s : Replacement) (ps : List (Primitive Tm)) (p : Primitive Tm) → OneType s (ps ++ p ∷ []) → OneType s ps
one_before s ps p one v k l has other = one v k l (has_before s ps p k v has) (has_before s ps p l v other)

differences-append : (ps qs : List (Primitive Tm)) → differences (ps ++ qs) ≡ differences ps ++ differences qs
differences-append [] qs = refl
differences-append (Primitive.differ a b ∷ ps) qs = ap (λ es. record { left = a; right = b } ∷ es) (differences-append ps qs)
differences-append (Primitive.same a b ∷ ps) qs = differences-append ps qs
differences-append (Primitive.symbol a ∷ ps) qs = differences-append ps qs
differences-append (Primitive.number a ∷ ps) qs = differences-append ps qs
differences-append (Primitive.text a ∷ ps) qs = differences-append ps qs
differences-append (Primitive.absent tag a ∷ ps) qs = differences-append ps qs

asked_differences-append : (ps qs : List (Primitive Tm)) → asked_differences (ps ++ qs) ≡ asked_differences ps ++ asked_differences qs
asked_differences-append ps qs = ap (map (λ e. e ∷ [])) (differences-append ps qs) ∙ map-append (λ e. e ∷ []) (differences ps) (differences qs)

-- a primitive that is no equation leaves the answer as it is, and one that is no disequality asks none
same_answer : (st : Store) (p : Primitive Tm) (s : Replacement) → equations (p ∷ []) ≡ [] → solve_store st ≡ Some s → solve_store (with_prim st p) ≡ Some s
same_answer st p s none h = ap solve (equations-append st.prims (p ∷ []) ∙ ap (λ es. equations st.prims ++ es) none ∙ append-nil (equations st.prims)) ∙ h

same_asked : (bound : Pairs) (ps : List (Primitive Tm)) (p : Primitive Tm) (lists : List Disequality) → asked_differences (p ∷ []) ≡ [] → Brought bound (asked_differences ps) lists → Brought bound (asked_differences (ps ++ p ∷ [])) lists
same_asked bound ps p lists none d = subst (λ old. Brought bound old lists) (sym (asked_differences-append ps (p ∷ []) ∙ ap (λ es. asked_differences ps ++ es) none ∙ append-nil (asked_differences ps))) d

-- a type that is asked of a term
abbrev TypingFacts : Kind → Tm → Type 0
TypingFacts k t = (equations (typing k t ∷ []) ≡ []) × (asked_differences (typing k t ∷ []) ≡ []) × ((s : Replacement) → allows s (typing k t) ≡ may_be k (apply s t))
    × ((l : Kind) (a : Tm) → typing l a ≡ typing k t → (l ≡ k) × (a ≡ t)) × ((tag : ℕ) (a : Tm) → Primitive.absent tag a ≡ typing k t → ⊥)

typing_facts : (k : Kind) (t : Tm) → TypingFacts k t
typing_facts Symbol t = (refl, refl, λ s. refl, same, λ tag a e. cc)
  where
    same : (l : Kind) (a : Tm) → typing l a ≡ Primitive.symbol t → (l ≡ Symbol) × (a ≡ t)
    same Symbol a e = (refl, cc)
    same Number a e = cc
    same Text a e = cc
typing_facts Number t = (refl, refl, λ s. refl, same, λ tag a e. cc)
  where
    same : (l : Kind) (a : Tm) → typing l a ≡ Primitive.number t → (l ≡ Number) × (a ≡ t)
    same Symbol a e = cc
    same Number a e = (refl, cc)
    same Text a e = cc
typing_facts Text t = (refl, refl, λ s. refl, same, λ tag a e. cc)
  where
    same : (l : Kind) (a : Tm) → typing l a ≡ Primitive.text t → (l ≡ Text) × (a ≡ t)
    same Symbol a e = cc
    same Number a e = cc
    same Text a e = (refl, cc)

module _ (bound : Pairs) (types : Types) (tags : TagsOf) (lists : Disequalities) (st : Store) (step : InStep bound types tags lists st) where
  -- where the full value of a term is a variable, the term walks to it
  walks_there : (t : Tm) (v : ℕ) → apply step.answer t ≡ Tree.leaf v → walk bound t ≡ Tree.leaf v
  walks_there t v is = by (full-variable bound (walk bound t) v (full-walk bound (g bound types tags lists st step) t ∙ step.fulls t ∙ is))
    where
      by : (u : ℕ) × (walk bound t ≡ Tree.leaf u) → walk bound t ≡ Tree.leaf v
      by (u, walks) =
          let one : Tree.leaf u ≡ Tree.leaf v = sym (full-free bound u (walk-end bound (g bound types tags lists st step) t u walks)) ∙ ap (full bound) (sym walks) ∙ full-walk bound (g bound types tags lists st step) t ∙ step.fulls t ∙ is in
          let same : u ≡ v = cc in
          walks ∙ ap Tree.leaf same

  is_there : (t : Tm) (v : ℕ) → walk bound t ≡ Tree.leaf v → apply step.answer t ≡ Tree.leaf v
  is_there t v walks = sym (step.fulls t) ∙ sym (full-walk bound (g bound types tags lists st step) t) ∙ ap (full bound) walks ∙ full-free bound v (walk-end bound (g bound types tags lists st step) t v walks)

  may_be_there : (k : Kind) (t : Tm) → may_be k (apply step.answer t) ≡ may_be k (walk bound t)
  may_be_there k t = ap (may_be k) (sym (step.fulls t) ∙ sym (full-walk bound (g bound types tags lists st step) t))
      ∙ may_be-full k bound (walk bound t) (λ v walks. walk-end bound (g bound types tags lists st step) t v walks)

  module _ (k : Kind) (t : Tm) where
    abbrev p : Primitive Tm
    p = typing k t

    abbrev longer : List (Primitive Tm)
    longer = st.prims ++ p ∷ []

    facts : TypingFacts k t
    facts = typing_facts k t

    pub typing_added : (new : Types) → GivesTypes types k (walk bound t) (Some new) → InStep bound new tags lists (with_prim st p)
    typing_added new gives = record {
      answer = step.answer;
      no_cycle = step.no_cycle;
      solved = same_answer st p step.answer facts.0 step.solved;
      fulls = step.fulls;
      typed = λ v free l. (come v free l, asked_at v free l);
      tagged = tags_more bound tags step.answer st.prims p facts.4 step.tagged;
      differ = same_asked bound st.prims p lists.asserted facts.1 step.differ;
      watched = step.watched;
      allowed = allowed_more step.answer st.prims p (allowed bound types tags lists st step) (facts.2 step.answer ∙ may_be_there k t ∙ move_may types (Some k) (walk bound t) new gives k refl);
    }
      where
        come : (v : ℕ) → bound_to v bound ≡ None → (l : Kind) → new v ≡ Some l → has_type l step.answer longer v ≡ true
        come v free l has = elim (move_cases types (Some k) (walk bound t) new gives v l has) [
          | inl before ↦ has_before step.answer st.prims p l v ((step.typed v free l).0 before)
          | inr (is, walks) ↦ (
              let same : k ≡ l = cc in
              subst (λ m. has_type m step.answer longer v ≡ true) same (has_type-from step.answer longer k v t (among-last p st.prims) (is_there t v walks)))
        ]

        asked_at : (v : ℕ) → bound_to v bound ≡ None → (l : Kind) → has_type l step.answer longer v ≡ true → new v ≡ Some l
        asked_at v free l has = let (a, among, is) = has_type-asked step.answer longer l v has in elim (among-cases (typing l a) p st.prims among) [
          | inl before ↦ move_keeps types (Some k) (walk bound t) new gives v l ((step.typed v free l).1 (has_type-from step.answer st.prims l v a before is))
          | inr last ↦ (
              let (same, term) = facts.3 l a last in
              move_puts types (Some k) (walk bound t) new gives v l (ap Some (sym same)) (walks_there t v (ap (apply step.answer) (sym term) ∙ is)))
        ]

    pub typing_fails : GivesTypes types k (walk bound t) None → is_kept (with_prim st p) ≡ false
    typing_fails gives = not_kept (with_prim st p) step.answer (same_answer st p step.answer facts.0 step.solved) (λ allowed one. by allowed one (move_stuck types (Some k) (walk bound t) gives))
      where
        by : Allowed step.answer longer → OneType step.answer longer → Stuck types (Some k) (walk bound t) → ⊥
        by allowed one (l, is, inl atom) =
            let same : k ≡ l = cc in
            true≢false (sym (allowed p (among-last p st.prims)) ∙ facts.2 step.answer ∙ may_be_there k t ∙ subst (λ m. may_be m (walk bound t) ≡ false) (sym same) atom)
        by allowed one (l, is, inr (y, m, walks, there, differ)) =
            let same : k ≡ l = cc in
            let free = walk-end bound (g bound types tags lists st step) t y walks in
            let other = has_before step.answer st.prims p m y ((step.typed y free m).0 there) in
            let one_kind : k ≡ m = one y k m (has_type-from step.answer longer k y t (among-last p st.prims) (is_there t y walks)) other in
            true≢false (sym (same_kind-same k) ∙ ap (same_kind k) one_kind ∙ subst (λ n. same_kind n m ≡ false) (sym same) differ)

-- a primitive that asks no type, and one that asks no absence
no_typing_absent : (tag : ℕ) (t : Tm) (k : Kind) (a : Tm) → typing k a ≡ Primitive.absent tag t → ⊥
no_typing_absent tag t Symbol a e = cc
no_typing_absent tag t Number a e = cc
no_typing_absent tag t Text a e = cc

no_typing_differ : (b c : Tm) (k : Kind) (a : Tm) → typing k a ≡ Primitive.differ b c → ⊥
no_typing_differ b c Symbol a e = cc
no_typing_differ b c Number a e = cc
no_typing_differ b c Text a e = cc

no_typing_same : (b c : Tm) (k : Kind) (a : Tm) → typing k a ≡ Primitive.same b c → ⊥
no_typing_same b c Symbol a e = cc
no_typing_same b c Number a e = cc
no_typing_same b c Text a e = cc

-- one tag as a list of one
one_tag : (tags : TagsOf) (tag : ℕ) (w : Tm) (new : TagsOf) → GivesTag tags tag w (Some new) → GivesTags tags (tag ∷ []) w (Some new)
one_tag tags tag w new (free, made) = (by (has_symbol tag w) free, made)
  where
    by : (c : Bool) → c ≡ false → (c || false) ≡ false
    by true h = h
    by false h = refl

only_tag : (tag other : ℕ) → is_listed other (tag ∷ []) ≡ true → tag ≡ other
only_tag tag other h = elim (or_cases (eqb tag other) false h) [
  | inl same ↦ eqb-true tag other same
  | inr none ↦ absurd (true≢false (sym none))
]

false_allowed : (c : Bool) → c ≡ false → not c ≡ true
false_allowed true h = sym h
false_allowed false h = refl

module _ (bound : Pairs) (types : Types) (tags : TagsOf) (lists : Disequalities) (st : Store) (step : InStep bound types tags lists st) where
  grows : Grown bound
  grows = g bound types tags lists st step

  -- an absence that is asked of a term
  module _ (tag : ℕ) (t : Tm) where
    abbrev asked_out : Primitive Tm
    asked_out = Primitive.absent tag t

    abbrev with_absence : List (Primitive Tm)
    with_absence = st.prims ++ asked_out ∷ []

    pub absent_added : (new : TagsOf) → GivesTag tags tag (full bound t) (Some new) → InStep bound types new lists (with_prim st asked_out)
    absent_added new gives = record {
      answer = step.answer;
      no_cycle = step.no_cycle;
      solved = same_answer st asked_out step.answer refl step.solved;
      fulls = step.fulls;
      typed = types_more bound types step.answer st.prims asked_out (no_typing_absent tag t) step.typed;
      tagged = λ v free other. (come v free other, asked_at v free other);
      differ = same_asked bound st.prims asked_out lists.asserted refl step.differ;
      watched = step.watched;
      allowed = allowed_more step.answer st.prims asked_out (allowed bound types tags lists st step) (false_allowed (has_symbol tag (apply step.answer t)) (ap (has_symbol tag) (sym (step.fulls t)) ∙ gives.0));
    }
      where
        made : GivesTags tags (tag ∷ []) (full bound t) (Some new)
        made = one_tag tags tag (full bound t) new gives

        come : (v : ℕ) → bound_to v bound ≡ None → (other : ℕ) → is_listed other (new v) ≡ true → has_absence step.answer with_absence other v ≡ true
        come v free other listed = elim (of_tags.move_cases tags (tag ∷ []) (full bound t) new made v other listed) [
          | inl before ↦ (
              let (a, among, there) = has_absence-asked step.answer st.prims other v ((step.tagged v free other).0 before) in
              has_absence-from step.answer with_absence other v a (among-left (Primitive.absent other a) st.prims (asked_out ∷ []) among) there)
          | inr (is, there) ↦ subst (λ u. has_absence step.answer with_absence u v ≡ true) (only_tag tag other is)
              (has_absence-from step.answer with_absence tag v t (among-last asked_out st.prims) (subst (λ w. occurs v w ≡ true) (step.fulls t) there))
        ]

        asked_at : (v : ℕ) → bound_to v bound ≡ None → (other : ℕ) → has_absence step.answer with_absence other v ≡ true → is_listed other (new v) ≡ true
        asked_at v free other has = let (a, among, there) = has_absence-asked step.answer with_absence other v has in elim (among-cases (Primitive.absent other a) asked_out st.prims among) [
          | inl before ↦ of_tags.move_keeps tags (tag ∷ []) (full bound t) new made v other ((step.tagged v free other).1 (has_absence-from step.answer st.prims other v a before there))
          | inr last ↦ (
              let same : other ≡ tag = cc in
              let term : a ≡ t = cc in
              of_tags.move_puts tags (tag ∷ []) (full bound t) new made v other (or_left (eqb tag other) false (eq-eqb tag other (sym same)))
              (subst (λ w. occurs v w ≡ true) (ap (apply step.answer) term ∙ sym (step.fulls t)) there))
        ]

    pub absent_fails : GivesTag tags tag (full bound t) None → is_kept (with_prim st asked_out) ≡ false
    absent_fails gives = not_kept (with_prim st asked_out) step.answer (same_answer st asked_out step.answer refl step.solved) (λ allowed one.
        true≢false (sym (allowed asked_out (among-last asked_out st.prims)) ∙ ap not (ap (has_symbol tag) (sym (step.fulls t)) ∙ gives)))

  -- a disequality that is asked of two terms
  module _ (laws : BringingGoesOn) (a b : Tm) where
    abbrev q : Primitive Tm
    q = Primitive.differ a b

    abbrev e : Equation
    e = record { left = a; right = b }

    pub differ_added : (new : Disequalities) → term_eq (full bound a) (full bound b) ≡ false → Brought bound (lists.asserted ++ (e ∷ []) ∷ []) new.asserted → AreWatched bound new.asserted new.watching → InStep bound types tags new (with_prim st q)
    differ_added new apart brought watched = record {
      answer = step.answer;
      no_cycle = step.no_cycle;
      solved = same_answer st q step.answer refl step.solved;
      fulls = step.fulls;
      typed = types_more bound types step.answer st.prims q (no_typing_differ a b) step.typed;
      tagged = tags_more bound tags step.answer st.prims q (λ tag c x. cc) step.tagged;
      differ = subst (λ old. Brought bound old new.asserted) (sym (asked_differences-append st.prims (q ∷ [])))
          (laws.goes_on bound [] bound (asked_differences st.prims ++ (e ∷ []) ∷ []) (lists.asserted ++ (e ∷ []) ∷ []) new.asserted refl
          (laws.joined bound (asked_differences st.prims) lists.asserted ((e ∷ []) ∷ []) ((e ∷ []) ∷ []) step.differ (laws.stays bound ((e ∷ []) ∷ []))) brought);
      watched = watched;
      allowed = allowed_more step.answer st.prims q (allowed bound types tags lists st step)
          (false_allowed (term_eq (apply step.answer a) (apply step.answer b)) (ap₂ term_eq (sym (step.fulls a)) (sym (step.fulls b)) ∙ apart));
    }

    pub differ_fails : term_eq (full bound a) (full bound b) ≡ true → is_kept (with_prim st q) ≡ false
    differ_fails same = not_kept (with_prim st q) step.answer (same_answer st q step.answer refl step.solved) (λ allowed one.
        true≢false (sym (allowed q (among-last q st.prims)) ∙ ap not (ap₂ term_eq (sym (step.fulls a)) (sym (step.fulls b)) ∙ same)))

  -- an equation of two terms
  module _ (laws : BringingGoesOn) (a b : Tm) where
    abbrev r : Primitive Tm
    r = Primitive.same a b

    abbrev d : Equation
    d = record { left = a; right = b }

    solves_as : solve_store (with_prim st r) ≡ solve (equations st.prims ++ d ∷ [])
    solves_as = ap solve (equations-append st.prims (r ∷ []))

    pub same_none : Unifying bound (d ∷ []) None → is_kept (with_prim st r) ≡ false
    same_none unify = ap (holds_with (st.prims ++ r ∷ [])) (solves_as ∙ ends_along bound grows (equations st.prims) step.answer step.solved step.fulls d unify)

    module _ (added : List (Tm × Tm)) (new : Pairs) (unify : Unifying bound (d ∷ []) (Some added)) (put : AddedTo bound added new) (none : HasNoCycle new) where
      grown_new : Grown new
      grown_new = grown new none

      on : (w : Replacement) × (solve (equations st.prims ++ d ∷ []) ≡ Some w) × ((t : Tm) → full new t ≡ apply w t)
      on = goes_along bound grows (equations st.prims) step.answer step.solved step.fulls d added new unify put

      solved_on : solve_store (with_prim st r) ≡ Some on.0
      solved_on = solves_as ∙ on.1

      typed_before : TypesAllowed step.answer st.prims
      typed_before = types_allowed step.answer st.prims (allowed bound types tags lists st step)

      pub same_types_fail : TypesMove new types added None → is_kept (with_prim st r) ≡ false
      same_types_fail moves = not_kept (with_prim st r) on.0 solved_on (λ allowed one.
          types_stop bound new added grows grown_new put step.answer on.0 step.fulls on.2 st.prims types step.typed moves
          (types_allowed on.0 st.prims (allowed_before on.0 st.prims r allowed)) (one_before on.0 st.prims r one))

      pub same_tags_fail : TagsMove new tags added None → is_kept (with_prim st r) ≡ false
      same_tags_fail moves = not_kept (with_prim st r) on.0 solved_on (λ allowed one.
          tags_stop bound new added grows grown_new put step.answer on.0 step.fulls on.2 st.prims tags step.tagged moves
          (λ tag c among. not_true (has_symbol tag (apply on.0 c)) (allowed (Primitive.absent tag c) (among-left (Primitive.absent tag c) st.prims (r ∷ []) among))))
        where
          not_true : (c : Bool) → not c ≡ true → c ≡ false
          not_true true h = absurd (true≢false (sym h))
          not_true false h = refl

      -- all that was asked, under the longer bindings
      brought_on : Brought new (asked_differences st.prims) lists.asserted
      brought_on = laws.goes_on bound added new (asked_differences st.prims) lists.asserted lists.asserted put step.differ (laws.stays new lists.asserted)

      pub same_differs_fail : list_any (is_identical new) lists.asserted ≡ true → is_kept (with_prim st r) ≡ false
      same_differs_fail identical = not_kept (with_prim st r) on.0 solved_on (λ allowed one.
          differs_fail new grown_new on.0 on.2 st.prims lists.asserted brought_on identical
          (λ c e among. not_true (term_eq (apply on.0 c) (apply on.0 e)) (allowed (Primitive.differ c e) (among-left (Primitive.differ c e) st.prims (r ∷ []) among))))
        where
          not_true : (c : Bool) → not c ≡ true → c ≡ false
          not_true true h = absurd (true≢false (sym h))
          not_true false h = refl

      pub same_added : (types' : Types) (tags' : TagsOf) (lists' : Disequalities) → TypesMove new types added (Some types') → TagsMove new tags added (Some tags') →
          list_any (is_identical new) lists.asserted ≡ false → lists'.asserted ≡ lists.asserted → AreWatched new lists'.asserted lists'.watching → InStep new types' tags' lists' (with_prim st r)
      same_added types' tags' lists' types_move tags_move apart stay watched = record {
        answer = on.0;
        no_cycle = none;
        solved = solved_on;
        fulls = on.2;
        typed = types_more new types' on.0 st.prims r (no_typing_same a b) typed_on.0;
        tagged = tags_more new tags' on.0 st.prims r (λ tag c x. cc) tagged_on.0;
        differ = same_asked new st.prims r lists'.asserted refl (subst (λ ds. Brought new (asked_differences st.prims) ds) (sym stay) brought_on);
        watched = watched;
        allowed = allowed_more on.0 st.prims r each refl;
      }
        where
          typed_on : TypesInStep new types' on.0 st.prims × TypesAllowed on.0 st.prims
          typed_on = types_step bound new added grows grown_new put step.answer on.0 step.fulls on.2 st.prims types types' step.typed typed_before types_move

          tagged_on : TagsInStep new tags' on.0 st.prims × TagsAllowed on.0 st.prims
          tagged_on = tags_step bound new added grows grown_new put step.answer on.0 step.fulls on.2 st.prims tags tags' step.tagged (tags_allowed bound types tags lists st step) tags_move

          differ_on : DiffersAllowed on.0 st.prims
          differ_on = differs_allowed new grown_new on.0 on.2 st.prims lists.asserted brought_on apart

          each : Allowed on.0 st.prims
          each (Primitive.same c e) among = refl
          each (Primitive.differ c e) among = false_allowed (term_eq (apply on.0 c) (apply on.0 e)) (differ_on c e among)
          each (Primitive.symbol c) among = typed_on.1 Symbol c among
          each (Primitive.number c) among = typed_on.1 Number c among
          each (Primitive.text c) among = typed_on.1 Text c among
          each (Primitive.absent tag c) among = false_allowed (has_symbol tag (apply on.0 c)) (tagged_on.1 tag c among)
