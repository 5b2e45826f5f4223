-- A form fits exactly where the rest of the store holds under the store's answer and the form.
use Rattle.std.proofs.Common.{◌≡◌, ℕ, Bool, true, false, ◌&&◌, ◌||◌, not, eqb, List, [], ◌∷◌, filter, Option, Some, None, refl, sym, ◌∙◌, ap, ap₂, subst, true≢false, inl, inr}
use Rattle.std.specs.Prelude.{if◌then◌else◌}
use Rattle.std.specs.List.{list_all, list_any}
use Rattle.std.proofs.lemmas.Bool.{and_from, and_parts, or_cases, or_left, or_right, or_parts, or_from, eqb-true, eq-eqb, both_ways, false_from_ne_true, not-true, not_from_false}
use Rattle.kan_terms.specs.Tree.{Tree, Tm, fill, occurs, has_symbol}
use Rattle.kan_model.specs.Programs.Goals.{Primitive}
use Rattle.kan_model.specs.Stores.Store.{Store, Equation}
use Rattle.kan_model.specs.Stores.Solve.{Replaced, Replacement, image, apply, solve_by}
use Rattle.kan_model.specs.Stores.Composition.{compose}
use Rattle.kan_model.specs.Stores.Kept.{may_be, allows, is_variable, gives_type, has_type, lacks_type, gives_one_type, holds_under, is_kept}
use Rattle.kan_model.specs.Stores.Calls.{replacement_of, kind_at, AreTags}
use Rattle.kan_model.specs.Terms.Letters as letters_of
use Rattle.kan_model.specs.declared.letters.Letter.{Letter}
use Rattle.std.proofs.lemmas.List.Folds.{list_any-append}
use Rattle.kan_model.specs.declared.prims.Kind.{Kind}
use Rattle.kan_model.specs.declared.prims.Kind.TheVariants.{Symbol, Number, Text}
use Rattle.kan_model.specs.Answers.Answer.{keeps_out, has_absence, tags_of, is_no_difference}
use Rattle.kan_model.proofs.ListLaws.{Each-like, Each-both, Each-filter, filter_passed, Each-from_list_all, list_all-from_Each}
use Rattle.kan_model.specs.Each.{Each}
use Rattle.kan_model.proofs.Solving.CompositionLaws.{compose_is_both}
use Rattle.kan_model.proofs.Solving.ReplacedLaws.{applied_twice}
use Rattle.kan_model.proofs.Solving.SolveLaws.{solve_by-Solves}
use Rattle.kan_model.proofs.Answering.SolvedForms.{Once, Solves-once}
use Rattle.store_laws.proofs.OneForm.{was_variable}
use Rattle.reify.specs.Typing.{kind_test}
use Rattle.reify.specs.Fitting.{kind_allows, kinds_agree, agrees_at, type_fits, types_fit, tags_fit, fits_at, fits, is_symbol_letter}
use Rattle.reify.proofs.KindLaws.{answer_holds, kind_is_one}
use Rattle.reify.proofs.AbsenceLaws.{tag_there, listed_is}

-- an element that passes a test is told by the test of the list
members : {X : Type 0} (xs : List X) → Each (λ x. (q : X → Bool) → q x ≡ true → list_any q xs ≡ true) xs
members [] = tt
members (x ∷ xs) = (λ q h. or_left (q x) (list_any q xs) h, Each-like _ _ (λ y f q h. or_right (q x) (list_any q xs) (f q h)) xs (members xs))

-- and the list's test tells such an element
any_of : {X : Type 0} (P : X → Type 0) (q : X → Bool) (xs : List X) → Each P xs → list_any q xs ≡ true → (x : X) × (q x ≡ true) × P x
any_of P q [] h k = absurd (true≢false (sym k))
any_of P q (x ∷ xs) (h, hs) k = elim (or_cases (q x) (list_any q xs) k) [
  | inl first ↦ (x, first, h)
  | inr later ↦ any_of P q xs hs later
]

-- what holds of each chosen element
chosen_all : {X : Type 0} (n q : X → Bool) (xs : List X) → list_all q (filter n xs) ≡ true → Each (λ x. n x ≡ true → q x ≡ true) xs
chosen_all n q [] h = tt
chosen_all n q (x ∷ xs) h = by (n x) refl (chosen_all n q xs) h
  where
    by : (b : Bool) → n x ≡ b → (list_all q (filter n xs) ≡ true → Each (λ y. n y ≡ true → q y ≡ true) xs) → list_all q (if b then x ∷ filter n xs else filter n xs) ≡ true → Each (λ y. n y ≡ true → q y ≡ true) (x ∷ xs)
    by true e ih k = let (first, rest) = and_parts (q x) (list_all q (filter n xs)) k in (λ _. first, ih rest)
    by false e ih k = (λ f. absurd (true≢false (sym f ∙ e)), ih k)

-- a fact of each pair is one of the image of each variable
each_image : (P : ℕ → Tm → Type 0) (r : Replacement) → ((v : ℕ) → P v (Tree.leaf v)) → Each (λ p. P p.var p.by) r → (v : ℕ) → P v (image r v)
each_image P [] own h v = own v
each_image P (p ∷ r) own (h, hs) v = by (eqb p.var v) refl (each_image P r own hs v)
  where
    by : (b : Bool) → eqb p.var v ≡ b → P v (image r v) → P v (if b then p.by else image r v)
    by true e k = subst (λ x. P x p.by) (eqb-true p.var v e) h
    by false e k = k

-- each pair is the image of its variable
entries : (r : Replacement) → Once r → Each (λ p. image r p.var ≡ p.by) r
entries [] h = tt
entries (p ∷ r) (h, hs) = (
  ap (λ b. if b then p.by else image r p.var) (eq-eqb p.var p.var refl),
  Each-like (λ q. (eqb p.var q.var ≡ false) × (image r q.var ≡ q.by)) (λ q. image (p ∷ r) q.var ≡ q.by) (λ q (other, is). ap (λ b. if b then p.by else image r q.var) other ∙ is) r
      (Each-both (λ q. eqb p.var q.var ≡ false) (λ q. image r q.var ≡ q.by) r h (entries r hs)),
)

once_solved : (left : ℕ → ℕ → Bool) (es : List Equation) (r : Replacement) → solve_by left es ≡ Some r → Once r
once_solved left es r e = subst OnOnce e (Solves-once left es (solve_by left es) (solve_by-Solves left es))
  where
    OnOnce : Option Replacement → Type 0
    OnOnce None = Unit {0}
    OnOnce (Some s) = Once s

-- variables
is_itself : (x : ℕ) (t : Tm) → is_variable x t ≡ true → t ≡ Tree.leaf x
is_itself x (Tree.leaf v) e = ap Tree.leaf (sym (eqb-true x v e))
is_itself x (Tree.sym s) e = absurd (true≢false (sym e))
is_itself x (Tree.str s) e = absurd (true≢false (sym e))
is_itself x (Tree.num n) e = absurd (true≢false (sym e))
is_itself x (Tree.truth b) e = absurd (true≢false (sym e))
is_itself x Tree.nil e = absurd (true≢false (sym e))
is_itself x (Tree.pair a b) e = absurd (true≢false (sym e))

itself_is : (x : ℕ) (t : Tm) → t ≡ Tree.leaf x → is_variable x t ≡ true
itself_is x t e = ap (is_variable x) e ∙ eq-eqb x x refl

same_leaf : (v x : ℕ) → Tree.leaf v ≡ Tree.leaf x → v ≡ x
same_leaf v x e = let same : Some v ≡ Some x = ap named e in cc
  where
    named : Tm → Option ℕ
    named (Tree.leaf w) = Some w
    named _ = None

-- types
kind_is : (kind : Kind) (o : Option Kind) → kind_test kind o ≡ true → o ≡ Some kind
kind_is Symbol (Some Symbol) e = refl
kind_is Number (Some Number) e = refl
kind_is Text (Some Text) e = refl
kind_is Symbol (Some Number) e = absurd (true≢false (sym e))
kind_is Symbol (Some Text) e = absurd (true≢false (sym e))
kind_is Number (Some Symbol) e = absurd (true≢false (sym e))
kind_is Number (Some Text) e = absurd (true≢false (sym e))
kind_is Text (Some Symbol) e = absurd (true≢false (sym e))
kind_is Text (Some Number) e = absurd (true≢false (sym e))
kind_is Symbol None e = absurd (true≢false (sym e))
kind_is Number None e = absurd (true≢false (sym e))
kind_is Text None e = absurd (true≢false (sym e))

is_kind : (kind : Kind) → kind_test kind (Some kind) ≡ true
is_kind Symbol = refl
is_kind Number = refl
is_kind Text = refl

agree_turn : (a b : Option Kind) → kinds_agree a b ≡ true → kinds_agree b a ≡ true
agree_turn None None e = refl
agree_turn None (Some b) e = refl
agree_turn (Some a) None e = refl
agree_turn (Some a) (Some b) e = let same : Some b ≡ Some a = kind_is a (Some b) e in ap (λ o. kinds_agree o (Some a)) same ∙ is_kind a

agree_self : (a : Option Kind) → kinds_agree a a ≡ true
agree_self None = refl
agree_self (Some a) = is_kind a

-- a primitive that gives a type is over one term
record Given (kind : Kind) (p : Primitive Tm) (c : Replacement) (x : ℕ) : Type 0 where
  pub of : Tm
  pub here : is_variable x (apply c of) ≡ true
  pub elsewhere : (s : Replacement) (v : ℕ) → is_variable v (apply s of) ≡ true → gives_type kind s v p ≡ true
  pub allowed : (s : Replacement) → allows s p ≡ may_be kind (apply s of)
  pub no_difference : is_no_difference p ≡ true

given : (kind : Kind) (p : Primitive Tm) (c : Replacement) (x : ℕ) → gives_type kind c x p ≡ true → Given kind p c x
given Symbol (Primitive.symbol a) c x e = record { of = a; here = e; elsewhere = λ s v h. h; allowed = λ s. refl; no_difference = refl }
given Number (Primitive.number a) c x e = record { of = a; here = e; elsewhere = λ s v h. h; allowed = λ s. refl; no_difference = refl }
given Text (Primitive.text a) c x e = record { of = a; here = e; elsewhere = λ s v h. h; allowed = λ s. refl; no_difference = refl }
given Symbol (Primitive.same a b) c x e = absurd (true≢false (sym e))
given Symbol (Primitive.differ a b) c x e = absurd (true≢false (sym e))
given Symbol (Primitive.number a) c x e = absurd (true≢false (sym e))
given Symbol (Primitive.text a) c x e = absurd (true≢false (sym e))
given Symbol (Primitive.absent t a) c x e = absurd (true≢false (sym e))
given Number (Primitive.same a b) c x e = absurd (true≢false (sym e))
given Number (Primitive.differ a b) c x e = absurd (true≢false (sym e))
given Number (Primitive.symbol a) c x e = absurd (true≢false (sym e))
given Number (Primitive.text a) c x e = absurd (true≢false (sym e))
given Number (Primitive.absent t a) c x e = absurd (true≢false (sym e))
given Text (Primitive.same a b) c x e = absurd (true≢false (sym e))
given Text (Primitive.differ a b) c x e = absurd (true≢false (sym e))
given Text (Primitive.symbol a) c x e = absurd (true≢false (sym e))
given Text (Primitive.number a) c x e = absurd (true≢false (sym e))
given Text (Primitive.absent t a) c x e = absurd (true≢false (sym e))

-- a term of a type under a replacement that allows it
may_under : (kind : Kind) (r : Replacement) (t : Tm) → may_be kind t ≡ true → ((v : ℕ) → is_variable v t ≡ true → may_be kind (image r v) ≡ true) → may_be kind (apply r t) ≡ true
may_under kind r (Tree.leaf v) h f = f v (eq-eqb v v refl)
may_under kind r (Tree.sym s) h f = h
may_under kind r (Tree.str s) h f = h
may_under kind r (Tree.num n) h f = h
may_under kind r (Tree.truth b) h f = h
may_under kind r Tree.nil h f = h
may_under Symbol r (Tree.pair a b) h f = absurd (true≢false (sym h))
may_under Number r (Tree.pair a b) h f = absurd (true≢false (sym h))
may_under Text r (Tree.pair a b) h f = absurd (true≢false (sym h))

-- a symbol that stands nowhere in a term, nor in what its variables become
none_under : (tag : ℕ) (f : ℕ → Tm) (t : Tm) → has_symbol tag t ≡ false → ((v : ℕ) → occurs v t ≡ true → has_symbol tag (f v) ≡ false) → has_symbol tag (fill f t) ≡ false
none_under tag f (Tree.leaf v) h k = k v (eq-eqb v v refl)
none_under tag f (Tree.sym s) h k = h
none_under tag f (Tree.str s) h k = h
none_under tag f (Tree.num n) h k = h
none_under tag f (Tree.truth b) h k = h
none_under tag f Tree.nil h k = h
none_under tag f (Tree.pair a b) h k =
    let (left, right) = or_parts (has_symbol tag a) (has_symbol tag b) h in
    or_from (has_symbol tag (fill f a)) (has_symbol tag (fill f b)) (none_under tag f a left (λ v o. k v (or_left (occurs v a) (occurs v b) o)))
    (none_under tag f b right (λ v o. k v (or_right (occurs v a) (occurs v b) o)))

none_inside : (tag v : ℕ) (f : ℕ → Tm) (t : Tm) → occurs v t ≡ true → has_symbol tag (fill f t) ≡ false → has_symbol tag (f v) ≡ false
none_inside tag v f (Tree.leaf w) o h = ap (λ x. has_symbol tag (f x)) (eqb-true v w o) ∙ h
none_inside tag v f (Tree.sym s) o h = absurd (true≢false (sym o))
none_inside tag v f (Tree.str s) o h = absurd (true≢false (sym o))
none_inside tag v f (Tree.num n) o h = absurd (true≢false (sym o))
none_inside tag v f (Tree.truth b) o h = absurd (true≢false (sym o))
none_inside tag v f Tree.nil o h = absurd (true≢false (sym o))
none_inside tag v f (Tree.pair a b) o h =
    let (left, right) = or_parts (has_symbol tag (fill f a)) (has_symbol tag (fill f b)) h in
    elim (or_cases (occurs v a) (occurs v b) o) [ inl first ↦ none_inside tag v f a first left | inr later ↦ none_inside tag v f b later right ]

-- a primitive that keeps a tag out of a variable
kept_out : (s c : Replacement) (tag v : ℕ) (p : Primitive Tm) → keeps_out s tag v p ≡ true → (is_no_difference p ≡ true → allows c p ≡ true) → (a : Tm) × (occurs v (apply s a) ≡ true) × (has_symbol tag (apply c a) ≡ false)
kept_out s c tag v (Primitive.absent t a) h k =
    let (same, inside) = and_parts (eqb tag t) (occurs v (apply s a)) h in
    (a, inside, ap (λ x. has_symbol x (apply c a)) (eqb-true tag t same) ∙ not-true (has_symbol t (apply c a)) (k refl))
kept_out s c tag v (Primitive.same a b) h k = absurd (true≢false (sym h))
kept_out s c tag v (Primitive.differ a b) h k = absurd (true≢false (sym h))
kept_out s c tag v (Primitive.symbol a) h k = absurd (true≢false (sym h))
kept_out s c tag v (Primitive.number a) h k = absurd (true≢false (sym h))
kept_out s c tag v (Primitive.text a) h k = absurd (true≢false (sym h))

module _ (st : Store) (kept : is_kept st ≡ true) (left : ℕ → ℕ → Bool) (es : List Equation) (r : Replacement) (solved : solve_by left es ≡ Some r) where
  abbrev ps : List (Primitive Tm)
  ps = st.prims

  abbrev s : Replacement
  s = replacement_of st

  abbrev c : Replacement
  c = compose s r

  abbrev qs : List (Primitive Tm)
  qs = filter is_no_difference ps

  both : (t : Tm) → apply c t ≡ apply r (apply s t)
  both t = compose_is_both s r t

  at_kind : (kind : Kind) (v : ℕ) → has_type kind s ps v ≡ true → kind_at st v ≡ Some kind
  at_kind kind v h = kind_is kind (kind_at st v) (kind_is_one st v kept kind ∙ h)

  type_of : (kind : Kind) (v : ℕ) → kind_at st v ≡ Some kind → has_type kind s ps v ≡ true
  type_of kind v h = sym (kind_is_one st v kept kind) ∙ ap (kind_test kind) h ∙ is_kind kind

  -- what is known of each primitive of the store
  abbrev Known : Primitive Tm → Type 0
  Known p = (allows s p ≡ true) × ((q : Primitive Tm → Bool) → q p ≡ true → list_any q ps ≡ true)

  known : Each Known ps
  known =
      Each-both (λ p. allows s p ≡ true) (λ p. (q : Primitive Tm → Bool) → q p ≡ true → list_any q ps ≡ true) ps
      (Each-from_list_all (allows s) ps (and_parts (list_all (allows s) ps) (list_all (gives_one_type s ps) ps) (answer_holds st kept).1).0) (members ps)

  known_rest : Each (λ p. Known p × (is_no_difference p ≡ true)) qs
  known_rest = Each-both Known (λ p. is_no_difference p ≡ true) qs (Each-filter Known is_no_difference ps known) (filter_passed is_no_difference ps)

  -- a variable of a type comes from a variable of that type
  origin : (kind : Kind) (x : ℕ) → has_type kind c qs x ≡ true → (w : ℕ) × (has_type kind s ps w ≡ true) × (image r w ≡ Tree.leaf x)
  origin kind x h =
      let (p, gives, (k, _)) = any_of (λ p. Known p × (is_no_difference p ≡ true)) (gives_type kind c x) qs known_rest h in
      let g = given kind p c x gives in
      let (w, is, becomes) = was_variable (image r) x (apply s g.of) (sym (both g.of) ∙ is_itself x (apply c g.of) g.here) in
      (w, k.1 (gives_type kind s w) (g.elsewhere s w (itself_is w (apply s g.of) is)), becomes)

  -- where the form fits, the store holds
  module _ (fit : fits st r ≡ true) where
    fit_each : Each (λ p. (types_fit st r p ≡ true) × (tags_fit st p ≡ true)) r
    fit_each = Each-like (λ p. fits_at st r p ≡ true) (λ p. (types_fit st r p ≡ true) × (tags_fit st p ≡ true)) (λ p. and_parts (types_fit st r p) (tags_fit st p)) r (Each-from_list_all (fits_at st r) r fit)

    type_allows : (kind : Kind) (t : Tm) → type_fits st r (Some kind) t ≡ true → may_be kind t ≡ true
    type_allows kind (Tree.leaf x) h = refl
    type_allows kind (Tree.sym x) h = h
    type_allows kind (Tree.str x) h = h
    type_allows kind (Tree.num n) h = h
    type_allows kind (Tree.truth b) h = h
    type_allows kind Tree.nil h = h
    type_allows kind (Tree.pair a b) h = h

    allowed_types : (v : ℕ) (kind : Kind) → has_type kind s ps v ≡ true → may_be kind (image r v) ≡ true
    allowed_types =
        each_image (λ v t. (kind : Kind) → has_type kind s ps v ≡ true → may_be kind t ≡ true) r (λ v kind h. refl)
        (Each-like (λ p. (types_fit st r p ≡ true) × (tags_fit st p ≡ true)) (λ p. (kind : Kind) → has_type kind s ps p.var ≡ true → may_be kind p.by ≡ true)
        (λ p (types, _) kind h. type_allows kind p.by (ap (λ o. type_fits st r o p.by) (sym (at_kind kind p.var h)) ∙ types)) r fit_each)

    tags_at : (t : Tm) (v tag : ℕ) (tags : List ℕ) → list_all (λ other. not (has_absence s ps other v && has_symbol other t)) tags ≡ true → has_absence s ps tag v ≡ true → list_any (eqb tag) tags ≡ true →
        has_symbol tag t ≡ false
    tags_at t v tag [] all out there = absurd (true≢false (sym there))
    tags_at t v tag (other ∷ tags) all out there =
        let (first, rest) = and_parts (not (has_absence s ps other v && has_symbol other t)) (list_all (λ next. not (has_absence s ps next v && has_symbol next t)) tags) all in
        elim (or_cases (eqb tag other) (list_any (eqb tag) tags) there) [
          | inl here ↦ false_from_ne_true (has_symbol tag t) (λ inside. both_ways (has_absence s ps other v && has_symbol other t) (not-true (has_absence s ps other v && has_symbol other t) first)
              (subst (λ y. (has_absence s ps y v && has_symbol y t) ≡ true) (eqb-true tag other here) (and_from (has_absence s ps tag v) (has_symbol tag t) out inside)))
          | inr later ↦ tags_at t v tag tags rest out later
        ]

    tag_of : (tag v : ℕ) → has_absence s ps tag v ≡ true → list_any (eqb tag) (tags_of ps) ≡ true
    tag_of tag v h = tag_there s tag v ps h

    allowed_tags : (v tag : ℕ) → has_absence s ps tag v ≡ true → has_symbol tag (image r v) ≡ false
    allowed_tags =
        each_image (λ v t. (tag : ℕ) → has_absence s ps tag v ≡ true → has_symbol tag t ≡ false) r (λ v tag h. refl)
        (Each-like (λ p. (types_fit st r p ≡ true) × (tags_fit st p ≡ true)) (λ p. (tag : ℕ) → has_absence s ps tag p.var ≡ true → has_symbol tag p.by ≡ false)
        (λ p (_, tags) tag h. tags_at p.by p.var tag (tags_of ps) tags h (tag_of tag p.var h)) r fit_each)

    -- all that becomes one variable agrees
    leaf_parts : (o : Option Kind) (t : Tm) (x : ℕ) → type_fits st r o t ≡ true → t ≡ Tree.leaf x → (kinds_agree o (kind_at st x) ≡ true) × (list_all (agrees_at st o x) r ≡ true)
    leaf_parts o t x h e = and_parts (kinds_agree o (kind_at st x)) (list_all (agrees_at st o x) r) (sym (ap (type_fits st r o) e) ∙ h)

    agrees_own : (v : ℕ) (x : ℕ) → image r v ≡ Tree.leaf x → kinds_agree (kind_at st v) (kind_at st x) ≡ true
    agrees_own =
        each_image (λ v t. (x : ℕ) → t ≡ Tree.leaf x → kinds_agree (kind_at st v) (kind_at st x) ≡ true) r
        (λ v x e. ap (λ y. kinds_agree (kind_at st v) (kind_at st y)) (sym (same_leaf v x e)) ∙ agree_self (kind_at st v))
        (Each-like (λ p. (types_fit st r p ≡ true) × (tags_fit st p ≡ true)) (λ p. (x : ℕ) → p.by ≡ Tree.leaf x → kinds_agree (kind_at st p.var) (kind_at st x) ≡ true)
        (λ p (types, _) x e. (leaf_parts (kind_at st p.var) p.by x types e).0) r fit_each)

    agree_others : (o : Option Kind) (x : ℕ) → kinds_agree o (kind_at st x) ≡ true → list_all (agrees_at st o x) r ≡ true → (w : ℕ) → image r w ≡ Tree.leaf x → kinds_agree o (kind_at st w) ≡ true
    agree_others o x own all =
        each_image (λ w t. t ≡ Tree.leaf x → kinds_agree o (kind_at st w) ≡ true) r (λ w e. ap (λ y. kinds_agree o (kind_at st y)) (same_leaf w x e) ∙ own)
        (Each-like (λ q. agrees_at st o x q ≡ true) (λ q. q.by ≡ Tree.leaf x → kinds_agree o (kind_at st q.var) ≡ true)
        (λ q h e. ap (λ b. if b then kinds_agree o (kind_at st q.var) else true) (sym (itself_is x q.by e)) ∙ h) r (Each-from_list_all (agrees_at st o x) r all))

    agree_two : (v : ℕ) (x : ℕ) → image r v ≡ Tree.leaf x → (w : ℕ) → image r w ≡ Tree.leaf x → kinds_agree (kind_at st v) (kind_at st w) ≡ true
    agree_two =
        each_image (λ v t. (x : ℕ) → t ≡ Tree.leaf x → (w : ℕ) → image r w ≡ Tree.leaf x → kinds_agree (kind_at st v) (kind_at st w) ≡ true) r
        (λ v x e w f. agree_turn (kind_at st w) (kind_at st v) (ap (λ y. kinds_agree (kind_at st w) (kind_at st y)) (same_leaf v x e) ∙ agrees_own w x f))
        (Each-like (λ p. (types_fit st r p ≡ true) × (tags_fit st p ≡ true)) (λ p. (x : ℕ) → p.by ≡ Tree.leaf x → (w : ℕ) → image r w ≡ Tree.leaf x → kinds_agree (kind_at st p.var) (kind_at st w) ≡ true)
        (λ p (types, _) x e. agree_others (kind_at st p.var) x (leaf_parts (kind_at st p.var) p.by x types e).0 (leaf_parts (kind_at st p.var) p.by x types e).1) r fit_each)

    -- each primitive is allowed
    typed : (kind : Kind) (a : Tm) → may_be kind (apply s a) ≡ true → ((v : ℕ) → is_variable v (apply s a) ≡ true → has_type kind s ps v ≡ true) → may_be kind (apply c a) ≡ true
    typed kind a h f = ap (may_be kind) (both a) ∙ may_under kind r (apply s a) h (λ v e. allowed_types v kind (f v e))

    allowed : (p : Primitive Tm) → Known p × (is_no_difference p ≡ true) → allows c p ≡ true
    allowed (Primitive.same a b) k = refl
    allowed (Primitive.differ a b) (k, n) = absurd (true≢false (sym n))
    allowed (Primitive.symbol a) ((h, m), n) = typed Symbol a h (λ v e. m (gives_type Symbol s v) e)
    allowed (Primitive.number a) ((h, m), n) = typed Number a h (λ v e. m (gives_type Number s v) e)
    allowed (Primitive.text a) ((h, m), n) = typed Text a h (λ v e. m (gives_type Text s v) e)
    allowed (Primitive.absent t a) ((h, m), n) =
        not_from_false (has_symbol t (apply c a)) (ap (has_symbol t) (both a) ∙ none_under t (image r) (apply s a) (not-true (has_symbol t (apply s a)) h)
        (λ v o. allowed_tags v t (m (keeps_out s t v) (and_from (eqb t t) (occurs v (apply s a)) (eq-eqb t t refl) o))))

    -- and gives no second type
    no_second : (kind other : Kind) → kind_test kind (Some other) ≡ false → (a : Tm) (u : Tm) → apply c a ≡ u → ((v : ℕ) → is_variable v (apply s a) ≡ true → has_type kind s ps v ≡ true) → lacks_type other c qs u ≡ true
    no_second kind other apart a (Tree.leaf x) e f = not_from_false (has_type other c qs x) (false_from_ne_true (has_type other c qs x) wrong)
      where
        wrong : has_type other c qs x ≡ true → ⊥
        wrong h =
            let (w, typed_w, becomes_w) = origin other x h in
            let (v, is, becomes) = was_variable (image r) x (apply s a) (sym (both a) ∙ e) in
            let agrees = agree_two v x becomes w becomes_w in
            true≢false (sym agrees ∙ ap₂ kinds_agree (at_kind kind v (f v (itself_is v (apply s a) is))) (at_kind other w typed_w) ∙ apart)
    no_second kind other apart a (Tree.sym x) e f = refl
    no_second kind other apart a (Tree.str x) e f = refl
    no_second kind other apart a (Tree.num n) e f = refl
    no_second kind other apart a (Tree.truth b) e f = refl
    no_second kind other apart a Tree.nil e f = refl
    no_second kind other apart a (Tree.pair d b) e f = refl

    one_type : (p : Primitive Tm) → Known p × (is_no_difference p ≡ true) → gives_one_type c qs p ≡ true
    one_type (Primitive.same a b) k = refl
    one_type (Primitive.differ a b) k = refl
    one_type (Primitive.number a) k = refl
    one_type (Primitive.absent t a) k = refl
    one_type (Primitive.symbol a) ((h, m), n) =
        and_from (lacks_type Number c qs (apply c a)) (lacks_type Text c qs (apply c a)) (no_second Symbol Number refl a (apply c a) refl (λ v e. m (gives_type Symbol s v) e))
        (no_second Symbol Text refl a (apply c a) refl (λ v e. m (gives_type Symbol s v) e))
    one_type (Primitive.text a) ((h, m), n) = no_second Text Number refl a (apply c a) refl (λ v e. m (gives_type Text s v) e)

    fit_holds : holds_under qs c ≡ true
    fit_holds =
        and_from (list_all (allows c) qs) (list_all (gives_one_type c qs) qs)
        (list_all-from_Each (allows c) qs (Each-like (λ p. Known p × (is_no_difference p ≡ true)) (λ p. allows c p ≡ true) allowed qs known_rest))
        (list_all-from_Each (gives_one_type c qs) qs (Each-like (λ p. Known p × (is_no_difference p ≡ true)) (λ p. gives_one_type c qs p ≡ true) one_type qs known_rest))

  -- where the store holds, the form fits
  module _ (holds : holds_under qs c ≡ true) where
    all_allowed : Each (λ p. is_no_difference p ≡ true → allows c p ≡ true) ps
    all_allowed = chosen_all is_no_difference (allows c) ps (and_parts (list_all (allows c) qs) (list_all (gives_one_type c qs) qs) holds).0

    all_one : Each (λ p. is_no_difference p ≡ true → gives_one_type c qs p ≡ true) ps
    all_one = chosen_all is_no_difference (gives_one_type c qs) ps (and_parts (list_all (allows c) qs) (list_all (gives_one_type c qs) qs) holds).1

    under_form : (v x : ℕ) (a : Tm) → is_variable v (apply s a) ≡ true → apply c a ≡ image r v
    under_form v x a e = both a ∙ ap (apply r) (is_itself v (apply s a) e)

    may_become : (kind : Kind) (v : ℕ) → has_type kind s ps v ≡ true → may_be kind (image r v) ≡ true
    may_become kind v h =
        let (p, gives, allow) = any_of (λ p. is_no_difference p ≡ true → allows c p ≡ true) (gives_type kind s v) ps all_allowed h in
        let g = given kind p s v gives in
        ap (may_be kind) (sym (under_form v 0 g.of g.here)) ∙ sym (g.allowed c) ∙ allow g.no_difference

    tags_become : (tag v : ℕ) → has_absence s ps tag v ≡ true → has_symbol tag (image r v) ≡ false
    tags_become tag v h =
        let (p, keeps, allow) = any_of (λ p. is_no_difference p ≡ true → allows c p ≡ true) (keeps_out s tag v) ps all_allowed h in
        let (a, inside, none) = kept_out s c tag v p keeps allow in
        none_inside tag v (image r) (apply s a) inside (ap (has_symbol tag) (sym (both a)) ∙ none)

    -- a type goes over to what its variable becomes
    carried : (kind : Kind) (w x : ℕ) → image r w ≡ Tree.leaf x → (xs : List (Primitive Tm)) → list_any (gives_type kind s w) xs ≡ true → list_any (gives_type kind c x) (filter is_no_difference xs) ≡ true
    carried kind w x becomes [] h = absurd (true≢false (sym h))
    carried kind w x becomes (p ∷ xs) h = elim (or_cases (gives_type kind s w p) (list_any (gives_type kind s w) xs) h) [
      | inl first ↦ here (given kind p s w first)
      | inr later ↦ there (is_no_difference p) (carried kind w x becomes xs later)
    ]
      where
        here : Given kind p s w → list_any (gives_type kind c x) (if is_no_difference p then p ∷ filter is_no_difference xs else filter is_no_difference xs) ≡ true
        here g =
            ap (λ b. list_any (gives_type kind c x) (if b then p ∷ filter is_no_difference xs else filter is_no_difference xs)) g.no_difference
            ∙ or_left (gives_type kind c x p) (list_any (gives_type kind c x) (filter is_no_difference xs)) (g.elsewhere c x (itself_is x (apply c g.of) (under_form w x g.of g.here ∙ becomes)))

        there : (b : Bool) → list_any (gives_type kind c x) (filter is_no_difference xs) ≡ true → list_any (gives_type kind c x) (if b then p ∷ filter is_no_difference xs else filter is_no_difference xs) ≡ true
        there true k = or_right (gives_type kind c x p) (list_any (gives_type kind c x) (filter is_no_difference xs)) k
        there false k = k

    lacks_at : (kind : Kind) (t : Tm) (x : ℕ) → t ≡ Tree.leaf x → lacks_type kind c qs t ≡ true → has_type kind c qs x ≡ false
    lacks_at kind t x e h = not-true (has_type kind c qs x) (sym (ap (lacks_type kind c qs) e) ∙ h)

    symbol_apart : (v x : ℕ) → has_type Symbol s ps v ≡ true → image r v ≡ Tree.leaf x → (has_type Number c qs x ≡ false) × (has_type Text c qs x ≡ false)
    symbol_apart v x h becomes =
        let (p, gives, one) = any_of (λ p. is_no_difference p ≡ true → gives_one_type c qs p ≡ true) (gives_type Symbol s v) ps all_one h in by p gives one
      where
        by : (p : Primitive Tm) → gives_type Symbol s v p ≡ true → (is_no_difference p ≡ true → gives_one_type c qs p ≡ true) → (has_type Number c qs x ≡ false) × (has_type Text c qs x ≡ false)
        by (Primitive.symbol a) e one =
            let (number, string) = and_parts (lacks_type Number c qs (apply c a)) (lacks_type Text c qs (apply c a)) (one refl) in
            (lacks_at Number (apply c a) x (under_form v x a e ∙ becomes) number, lacks_at Text (apply c a) x (under_form v x a e ∙ becomes) string)
        by (Primitive.same a b) e one = absurd (true≢false (sym e))
        by (Primitive.differ a b) e one = absurd (true≢false (sym e))
        by (Primitive.number a) e one = absurd (true≢false (sym e))
        by (Primitive.text a) e one = absurd (true≢false (sym e))
        by (Primitive.absent t a) e one = absurd (true≢false (sym e))

    text_apart : (v x : ℕ) → has_type Text s ps v ≡ true → image r v ≡ Tree.leaf x → has_type Number c qs x ≡ false
    text_apart v x h becomes =
        let (p, gives, one) = any_of (λ p. is_no_difference p ≡ true → gives_one_type c qs p ≡ true) (gives_type Text s v) ps all_one h in by p gives one
      where
        by : (p : Primitive Tm) → gives_type Text s v p ≡ true → (is_no_difference p ≡ true → gives_one_type c qs p ≡ true) → has_type Number c qs x ≡ false
        by (Primitive.text a) e one = lacks_at Number (apply c a) x (under_form v x a e ∙ becomes) (one refl)
        by (Primitive.same a b) e one = absurd (true≢false (sym e))
        by (Primitive.differ a b) e one = absurd (true≢false (sym e))
        by (Primitive.symbol a) e one = absurd (true≢false (sym e))
        by (Primitive.number a) e one = absurd (true≢false (sym e))
        by (Primitive.absent t a) e one = absurd (true≢false (sym e))

    -- so variables that become one are of one type
    same_types : (kind other : Kind) (v w x : ℕ) → has_type kind s ps v ≡ true → has_type other s ps w ≡ true → image r v ≡ Tree.leaf x → image r w ≡ Tree.leaf x → kind_test kind (Some other) ≡ true
    same_types Symbol Symbol v w x h k e f = refl
    same_types Number Number v w x h k e f = refl
    same_types Text Text v w x h k e f = refl
    same_types Symbol Number v w x h k e f = absurd (both_ways (has_type Number c qs x) (symbol_apart v x h e).0 (carried Number w x f ps k))
    same_types Symbol Text v w x h k e f = absurd (both_ways (has_type Text c qs x) (symbol_apart v x h e).1 (carried Text w x f ps k))
    same_types Number Symbol v w x h k e f = absurd (both_ways (has_type Number c qs x) (symbol_apart w x k f).0 (carried Number v x e ps h))
    same_types Number Text v w x h k e f = absurd (both_ways (has_type Number c qs x) (text_apart w x k f) (carried Number v x e ps h))
    same_types Text Symbol v w x h k e f = absurd (both_ways (has_type Text c qs x) (symbol_apart w x k f).1 (carried Text v x e ps h))
    same_types Text Number v w x h k e f = absurd (both_ways (has_type Number c qs x) (text_apart v x h e) (carried Number w x f ps k))

    agree_where : (v w x : ℕ) → image r v ≡ Tree.leaf x → image r w ≡ Tree.leaf x → kinds_agree (kind_at st v) (kind_at st w) ≡ true
    agree_where v w x e f = by (kind_at st v) (kind_at st w) refl refl
      where
        by : (o p : Option Kind) → kind_at st v ≡ o → kind_at st w ≡ p → kinds_agree o p ≡ true
        by None p h k = refl
        by (Some kind) None h k = refl
        by (Some kind) (Some other) h k = same_types kind other v w x (type_of kind v h) (type_of other w k) e f

    -- a variable that stands in the form stays
    stays : (v x : ℕ) → image r v ≡ Tree.leaf x → image r x ≡ Tree.leaf x
    stays v x e = ap (apply r) (sym e) ∙ applied_twice left es r (Tree.leaf v) solved ∙ e

    all_agree : (o : Option Kind) (x : ℕ) → ((w : ℕ) → image r w ≡ Tree.leaf x → kinds_agree o (kind_at st w) ≡ true) → list_all (agrees_at st o x) r ≡ true
    all_agree o x f =
        list_all-from_Each (agrees_at st o x) r (Each-like (λ q. image r q.var ≡ q.by) (λ q. agrees_at st o x q ≡ true) (λ q is. by q is (is_variable x q.by) refl) r (entries r (once_solved left es r solved)))
      where
        by : (q : Replaced) → image r q.var ≡ q.by → (b : Bool) → is_variable x q.by ≡ b → (if is_variable x q.by then kinds_agree o (kind_at st q.var) else true) ≡ true
        by q is true e = ap (λ b. if b then kinds_agree o (kind_at st q.var) else true) e ∙ f q.var (is ∙ is_itself x q.by e)
        by q is false e = ap (λ b. if b then kinds_agree o (kind_at st q.var) else true) e

    fit_other : (v : ℕ) (t : Tm) → image r v ≡ t → kind_allows (kind_at st v) t ≡ true
    fit_other v t e = by (kind_at st v) refl
      where
        by : (o : Option Kind) → kind_at st v ≡ o → kind_allows o t ≡ true
        by None h = refl
        by (Some kind) h = ap (may_be kind) (sym e) ∙ may_become kind v (type_of kind v h)

    fit_type : (v : ℕ) (t : Tm) → image r v ≡ t → type_fits st r (kind_at st v) t ≡ true
    fit_type v (Tree.leaf x) e =
        and_from (kinds_agree (kind_at st v) (kind_at st x)) (list_all (agrees_at st (kind_at st v) x) r) (agree_where v x x e (stays v x e)) (all_agree (kind_at st v) x (λ w f. agree_where v w x e f))
    fit_type v (Tree.sym x) e = fit_other v (Tree.sym x) e
    fit_type v (Tree.str x) e = fit_other v (Tree.str x) e
    fit_type v (Tree.num n) e = fit_other v (Tree.num n) e
    fit_type v (Tree.truth b) e = fit_other v (Tree.truth b) e
    fit_type v Tree.nil e = fit_other v Tree.nil e
    fit_type v (Tree.pair a b) e = fit_other v (Tree.pair a b) e

    fit_tags : (v : ℕ) (t : Tm) → image r v ≡ t → (tags : List ℕ) → list_all (λ tag. not (has_absence s ps tag v && has_symbol tag t)) tags ≡ true
    fit_tags v t e [] = refl
    fit_tags v t e (tag ∷ tags) = and_from (not (has_absence s ps tag v && has_symbol tag t)) (list_all (λ next. not (has_absence s ps next v && has_symbol next t)) tags) (by (has_absence s ps tag v) refl) (fit_tags v t e tags)
      where
        by : (b : Bool) → has_absence s ps tag v ≡ b → not (has_absence s ps tag v && has_symbol tag t) ≡ true
        by true h = rw (h, ap (has_symbol tag) (sym e) ∙ tags_become tag v h) refl
        by false h = rw h refl

    holds_fit : fits st r ≡ true
    holds_fit =
        list_all-from_Each (fits_at st r) r (Each-like (λ p. image r p.var ≡ p.by) (λ p. fits_at st r p ≡ true)
        (λ p is. and_from (types_fit st r p) (tags_fit st p) (fit_type p.var p.by is) (fit_tags p.var p.by is (tags_of ps))) r (entries r (once_solved left es r solved)))

  -- the form fits exactly where the store holds
  pub fits_is : fits st r ≡ holds_under qs c
  fits_is = by (fits st r) (holds_under qs c) fit_holds holds_fit
    where
      by : (a b : Bool) → (a ≡ true → b ≡ true) → (b ≡ true → a ≡ true) → a ≡ b
      by true b f g = sym (f refl)
      by false true f g = g refl
      by false false f g = refl

-- a symbol stands in a term where its letter is among the term's letters
or_none : (b : Bool) → (b || false) ≡ b
or_none true = refl
or_none false = refl

symbol_letters : (tag : ℕ) (t : Tm) → list_any (is_symbol_letter tag) (letters_of.spelling t) ≡ has_symbol tag t
symbol_letters tag (Tree.leaf v) = refl
symbol_letters tag (Tree.sym s) = or_none (eqb tag s)
symbol_letters tag (Tree.str s) = refl
symbol_letters tag (Tree.num n) = refl
symbol_letters tag (Tree.truth b) = refl
symbol_letters tag Tree.nil = refl
symbol_letters tag (Tree.pair a b) =
    list_any-append (is_symbol_letter tag) (letters_of.spelling a) (letters_of.spelling b) ∙ ap₂ (λ x y. x || y) (symbol_letters tag a) (symbol_letters tag b)

-- a test of all elements, by those that stand in the list
all_from : (p : ℕ → Bool) (xs : List ℕ) → ((v : ℕ) → list_any (eqb v) xs ≡ true → p v ≡ true) → list_all p xs ≡ true
all_from p [] f = refl
all_from p (x ∷ xs) f =
    and_from (p x) (list_all p xs) (f x (or_left (eqb x x) (list_any (eqb x) xs) (eq-eqb x x refl))) (all_from p xs (λ v h. f v (or_right (eqb v x) (list_any (eqb v) xs) h)))

all_at : (p : ℕ → Bool) (xs : List ℕ) (v : ℕ) → list_all p xs ≡ true → list_any (eqb v) xs ≡ true → p v ≡ true
all_at p [] v h k = absurd (true≢false (sym k))
all_at p (x ∷ xs) v h k =
    let (first, rest) = and_parts (p x) (list_all p xs) h in
    elim (or_cases (eqb v x) (list_any (eqb v) xs) k) [ inl here ↦ ap p (eqb-true v x here) ∙ first | inr later ↦ all_at p xs v rest later ]

module _ (st : Store) (v : ℕ) (t : Tm) (tags : List ℕ) (are : AreTags st v tags) where
  abbrev out : ℕ → Bool
  out tag = has_absence (replacement_of st) st.prims tag v

  to_all : list_all (λ tag. not (has_symbol tag t)) tags ≡ true → list_all (λ tag. not (out tag && has_symbol tag t)) (tags_of st.prims) ≡ true
  to_all h = all_from (λ tag. not (out tag && has_symbol tag t)) (tags_of st.prims) (λ tag there. by tag (out tag) refl)
    where
      by : (tag : ℕ) (b : Bool) → out tag ≡ b → not (out tag && has_symbol tag t) ≡ true
      by tag true e = ap (λ b. not (b && has_symbol tag t)) e ∙ all_at (λ other. not (has_symbol other t)) tags tag h (listed_is tags tag (out tag) (are tag) ∙ e)
      by tag false e = ap (λ b. not (b && has_symbol tag t)) e

  to_some : list_all (λ tag. not (out tag && has_symbol tag t)) (tags_of st.prims) ≡ true → list_all (λ tag. not (has_symbol tag t)) tags ≡ true
  to_some h = all_from (λ tag. not (has_symbol tag t)) tags (λ tag there. by tag (sym (listed_is tags tag (out tag) (are tag)) ∙ there))
    where
      by : (tag : ℕ) → out tag ≡ true → not (has_symbol tag t) ≡ true
      by tag e = sym (ap (λ b. not (b && has_symbol tag t)) e) ∙ all_at (λ other. not (out other && has_symbol other t)) (tags_of st.prims) tag h (tag_there (replacement_of st) tag v st.prims e)

map_tests : (letters : List Letter) (t : Tm) → letters ≡ letters_of.spelling t → (tags : List ℕ) →
    list_all (λ tag. not (list_any (is_symbol_letter tag) letters)) tags ≡ list_all (λ tag. not (has_symbol tag t)) tags
map_tests letters t e [] = refl
map_tests letters t e (tag ∷ tags) = ap₂ (λ x y. not x && y) (ap (list_any (is_symbol_letter tag)) e ∙ symbol_letters tag t) (map_tests letters t e tags)

-- the tags of a variable that the store tells fit a term where all its tags do
pub tags_fit_is : (st : Store) (p : Replaced) (tags : List ℕ) (letters : List Letter) (fit : Bool) → AreTags st p.var tags → letters ≡ letters_of.spelling p.by →
    fit ≡ list_all (λ tag. not (list_any (is_symbol_letter tag) letters)) tags → fit ≡ tags_fit st p
tags_fit_is st p tags letters fit are spelled test =
    test ∙ map_tests letters p.by spelled tags ∙ by (list_all (λ tag. not (has_symbol tag p.by)) tags) (tags_fit st p) (to_all st p.var p.by tags are) (to_some st p.var p.by tags are)
  where
    by : (a b : Bool) → (a ≡ true → b ≡ true) → (b ≡ true → a ≡ true) → a ≡ b
    by true b f g = sym (f refl)
    by false true f g = g refl
    by false false f g = refl
