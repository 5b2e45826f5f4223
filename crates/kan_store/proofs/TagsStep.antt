-- Absences keep in step with a store when bindings are added.
use Rattle.std.proofs.Common.{◌≡◌, ℕ, Bool, true, false, eqb, Contains, List, [], ◌∷◌, ◌++◌, ◌⊎◌, Option, Some, None, inl, inr, sym, ap, subst, refl, ◌∙◌, if◌then◌else◌}
use Rattle.std.proofs.lemmas.Bool.{eq-eqb, eqb-true, or_cases, or_left, or_right, false_from_ne_true, true≢false}
use Rattle.kan_terms.specs.Tree.{Tree, Tm, leaves, occurs, has_symbol}
use Rattle.kan_terms.specs.Bound.{bound_to}
use Rattle.kan_terms.proofs.TreeLaws.{occurs-fill, fill-occurs, has_symbol-fill, leaves-has_symbol, occurs-leaves, leaves-occurs}
use Rattle.kan_model.specs.Programs.Goals.{Primitive}
use Rattle.kan_model.specs.Stores.Solve.{Replacement, apply}
use Rattle.kan_model.specs.Answers.Answer.{has_absence}
use Rattle.unify_core.specs.Walking.{Pairs, ends, full}
use Rattle.unify_core.specs.Solutions.{AddedTo}
use Rattle.unify_core.proofs.GrowthLaws.{Grown}
use Rattle.unify_core.proofs.AnswerLaws.{full_unbound}
use Rattle.type_absence.specs.Tags.{is_listed, with_tag, with_tags, has_any}
use Rattle.type_absence.specs.Absent.{TagsOf, GivesTags}
use Rattle.kan_store.specs.Moving.{TagsMove}
use Rattle.kan_store.specs.InStep.{TagsInStep}
use Rattle.diseq.specs.Among.{Among}
use Rattle.kan_store.proofs.KeptParts.{has_absence-from, has_absence-asked}
use Rattle.kan_store.proofs.AddedLaws.{unbound-before, added-free, added-bound, bound-added, full-onward, full-bound, full-free}

-- lists of tags
pub listed-last : (tag other : ℕ) (tags : List ℕ) → is_listed tag (tags ++ other ∷ []) ≡ true → (is_listed tag tags ≡ true) ⊎ (other ≡ tag)
listed-last tag other [] h = elim (or_cases (eqb other tag) false h) [
  | inl same ↦ inr (eqb-true other tag same)
  | inr none ↦ absurd (true≢false (sym none))
]
listed-last tag other (t ∷ tags) h = elim (or_cases (eqb t tag) (is_listed tag (tags ++ other ∷ [])) h) [
  | inl first ↦ inl (or_left (eqb t tag) (is_listed tag tags) first)
  | inr rest ↦ elim (listed-last tag other tags rest) [
    | inl there ↦ inl (or_right (eqb t tag) (is_listed tag tags) there)
    | inr same ↦ inr same
  ]
]

pub last-listed : (tag other : ℕ) (tags : List ℕ) → (is_listed tag tags ≡ true) ⊎ (other ≡ tag) → is_listed tag (tags ++ other ∷ []) ≡ true
last-listed tag other [] (inl h) = absurd (true≢false (sym h))
last-listed tag other [] (inr same) = or_left (eqb other tag) false (eq-eqb other tag same)
last-listed tag other (t ∷ tags) (inl h) = elim (or_cases (eqb t tag) (is_listed tag tags) h) [
  | inl first ↦ or_left (eqb t tag) (is_listed tag (tags ++ other ∷ [])) first
  | inr rest ↦ or_right (eqb t tag) (is_listed tag (tags ++ other ∷ [])) (last-listed tag other tags (inl rest))
]
last-listed tag other (t ∷ tags) (inr same) = or_right (eqb t tag) (is_listed tag (tags ++ other ∷ [])) (last-listed tag other tags (inr same))

pub one-cases : (tag other : ℕ) (tags : List ℕ) → is_listed tag (with_tag other tags) ≡ true → (is_listed tag tags ≡ true) ⊎ (other ≡ tag)
one-cases tag other tags h = by (is_listed other tags) h
  where
    by : (c : Bool) → is_listed tag (if c then tags else tags ++ other ∷ []) ≡ true → (is_listed tag tags ≡ true) ⊎ (other ≡ tag)
    by true h = inl h
    by false h = listed-last tag other tags h

pub one-listed : (tag other : ℕ) (tags : List ℕ) → (is_listed tag tags ≡ true) ⊎ (other ≡ tag) → is_listed tag (with_tag other tags) ≡ true
one-listed tag other tags which = by (is_listed other tags) refl
  where
    there : is_listed other tags ≡ true → (is_listed tag tags ≡ true) ⊎ (other ≡ tag) → is_listed tag tags ≡ true
    there e (inl h) = h
    there e (inr same) = subst (λ t. is_listed t tags ≡ true) same e

    by : (c : Bool) → is_listed other tags ≡ c → is_listed tag (if c then tags else tags ++ other ∷ []) ≡ true
    by true e = there e which
    by false e = last-listed tag other tags which

pub all-cases : (tag : ℕ) (more tags : List ℕ) → is_listed tag (with_tags more tags) ≡ true → (is_listed tag tags ≡ true) ⊎ (is_listed tag more ≡ true)
all-cases tag [] tags h = inl h
all-cases tag (t ∷ more) tags h = elim (all-cases tag more (with_tag t tags) h) [
  | inr later ↦ inr (or_right (eqb t tag) (is_listed tag more) later)
  | inl first ↦ elim (one-cases tag t tags first) [
    | inl there ↦ inl there
    | inr same ↦ inr (or_left (eqb t tag) (is_listed tag more) (eq-eqb t tag same))
  ]
]

pub all-listed : (tag : ℕ) (more tags : List ℕ) → (is_listed tag tags ≡ true) ⊎ (is_listed tag more ≡ true) → is_listed tag (with_tags more tags) ≡ true
all-listed tag [] tags (inl h) = h
all-listed tag [] tags (inr h) = absurd (true≢false (sym h))
all-listed tag (t ∷ more) tags (inl h) = all-listed tag more (with_tag t tags) (inl (one-listed tag t tags (inl h)))
all-listed tag (t ∷ more) tags (inr h) = elim (or_cases (eqb t tag) (is_listed tag more) h) [
  | inl same ↦ all-listed tag more (with_tag t tags) (inl (one-listed tag t tags (inr (eqb-true t tag same))))
  | inr later ↦ all-listed tag more (with_tag t tags) (inr later)
]

pub any-symbol : (tags : List ℕ) (t : Tm) → has_any tags t ≡ true → (tag : ℕ) × (is_listed tag tags ≡ true) × (has_symbol tag t ≡ true)
any-symbol [] t h = absurd (true≢false (sym h))
any-symbol (tag ∷ tags) t h = elim (or_cases (has_symbol tag t) (has_any tags t) h) [
  | inl first ↦ (tag, or_left (eqb tag tag) (is_listed tag tags) (eq-eqb tag tag refl), first)
  | inr rest ↦ (let (other, listed, has) = any-symbol tags t rest in (other, or_right (eqb tag other) (is_listed other tags) listed, has))
]

pub symbol-any : (tags : List ℕ) (t : Tm) (tag : ℕ) → is_listed tag tags ≡ true → has_symbol tag t ≡ true → has_any tags t ≡ true
symbol-any [] t tag listed has = absurd (true≢false (sym listed))
symbol-any (other ∷ tags) t tag listed has = elim (or_cases (eqb other tag) (is_listed tag tags) listed) [
  | inl same ↦ or_left (has_symbol other t) (has_any tags t) (subst (λ s. has_symbol s t ≡ true) (sym (eqb-true other tag same)) has)
  | inr later ↦ or_right (has_symbol other t) (has_any tags t) (symbol-any tags t tag later has)
]

-- tags that go over to a term; w is its full value
module _ (old : TagsOf) (more : List ℕ) (w : Tm) (mid : TagsOf) (moves : GivesTags old more w (Some mid)) where
  at : (y : ℕ) → mid y ≡ (if occurs y w then with_tags more (old y) else old y)
  at = moves.1

  move_elsewhere : (y : ℕ) → occurs y w ≡ false → mid y ≡ old y
  move_elsewhere y out = at y ∙ ap (λ c. if c then with_tags more (old y) else old y) out

  move_here : (y : ℕ) → occurs y w ≡ true → mid y ≡ with_tags more (old y)
  move_here y there = at y ∙ ap (λ c. if c then with_tags more (old y) else old y) there

  pub move_keeps : (y tag : ℕ) → is_listed tag (old y) ≡ true → is_listed tag (mid y) ≡ true
  move_keeps y tag h = by (occurs y w) refl
    where
      by : (c : Bool) → occurs y w ≡ c → is_listed tag (mid y) ≡ true
      by true e = subst (λ ts. is_listed tag ts ≡ true) (sym (move_here y e)) (all-listed tag more (old y) (inl h))
      by false e = subst (λ ts. is_listed tag ts ≡ true) (sym (move_elsewhere y e)) h

  pub move_puts : (y tag : ℕ) → is_listed tag more ≡ true → occurs y w ≡ true → is_listed tag (mid y) ≡ true
  move_puts y tag h there = subst (λ ts. is_listed tag ts ≡ true) (sym (move_here y there)) (all-listed tag more (old y) (inr h))

  pub move_free : (tag : ℕ) → is_listed tag more ≡ true → has_symbol tag w ≡ false
  move_free tag h = false_from_ne_true (has_symbol tag w) (λ has. true≢false (sym (symbol-any more w tag h has) ∙ moves.0))

  pub move_cases : (y tag : ℕ) → is_listed tag (mid y) ≡ true → (is_listed tag (old y) ≡ true) ⊎ ((is_listed tag more ≡ true) × (occurs y w ≡ true))
  move_cases y tag h = by (occurs y w) refl
    where
      by : (c : Bool) → occurs y w ≡ c → (is_listed tag (old y) ≡ true) ⊎ ((is_listed tag more ≡ true) × (occurs y w ≡ true))
      by false e = inl (subst (λ ts. is_listed tag ts ≡ true) (move_elsewhere y e) h)
      by true e = elim (all-cases tag more (old y) (subst (λ ts. is_listed tag ts ≡ true) (move_here y e) h)) [
        | inl there ↦ inl there
        | inr brought ↦ inr (brought, e)
      ]

-- all moves along pairs of variables that are bound by now
module _ (new : Pairs) (g : Grown new) where
  abbrev Bounds : List (Tm × Tm) → Type 0
  Bounds more = (x : ℕ) (t : Tm) → Among (Tree.leaf x, t) more → (u : Tm) × (bound_to x new ≡ Some u)

  -- a bound variable stands in no full value
  apart : (t : Tm) (x : ℕ) (u : Tm) → bound_to x new ≡ Some u → occurs x (full new t) ≡ false
  apart t x u bound = false_from_ne_true (occurs x (full new t)) (λ there. (let bad : None ≡ Some u = sym (full_unbound new g t x there) ∙ bound in cc))

  pub moves_keep : (old : TagsOf) (more : List (Tm × Tm)) (r : Option TagsOf) → TagsMove new old more r → (final : TagsOf) → r ≡ Some final →
      (v tag : ℕ) → is_listed tag (old v) ≡ true → is_listed tag (final v) ≡ true
  moves_keep old more r (TagsMove.all_moved {new = made} same) final is v tag h =
      let one : made ≡ final = cc in subst (λ f. is_listed tag (f v) ≡ true) one (subst (λ ts. is_listed tag ts ≡ true) (sym (same v)) h)
  moves_keep old more r (TagsMove.moved_one {mid = mid} {x = x} {t = t} {more = rest} one d) final is v tag h =
      moves_keep mid rest r d final is v tag (move_keeps old (old x) (full new t) mid one v tag h)
  moves_keep old more r (TagsMove.not_moved one) final is v tag h = cc

  pub moves_put : (old : TagsOf) (more : List (Tm × Tm)) (r : Option TagsOf) → TagsMove new old more r → (final : TagsOf) → r ≡ Some final → (x : ℕ) (t : Tm) → Among (Tree.leaf x, t) more →
      (tag : ℕ) → is_listed tag (old x) ≡ true → ((v : ℕ) → occurs v (full new t) ≡ true → is_listed tag (final v) ≡ true) × (has_symbol tag (full new t) ≡ false)
  moves_put old more r (TagsMove.all_moved same) final is x t none tag h = absurd none
  moves_put old more r (TagsMove.moved_one {mid = mid} {x = y} {t = u} {more = rest} one d) final is x t (inl e) tag h =
      let first : Tree.leaf y ≡ Tree.leaf x = ap (λ p. p.0) e in
      let same : y ≡ x = cc in
      let term : u ≡ t = ap (λ p. p.1) e in
      let listed : is_listed tag (old y) ≡ true = subst (λ z. is_listed tag (old z) ≡ true) (sym same) h in (
        λ v there. moves_keep mid rest r d final is v tag (move_puts old (old y) (full new u) mid one v tag listed (subst (λ w. occurs v (full new w) ≡ true) (sym term) there)),
        subst (λ w. has_symbol tag (full new w) ≡ false) term (move_free old (old y) (full new u) mid one tag listed),
      )
  moves_put old more r (TagsMove.moved_one {mid = mid} {x = y} {t = u} {more = rest} one d) final is x t (inr a) tag h =
      moves_put mid rest r d final is x t a tag (move_keeps old (old y) (full new u) mid one x tag h)
  moves_put old more r (TagsMove.not_moved one) final is x t a tag h = cc

  -- where a tag comes from: it was there, or a variable brought it
  abbrev pub From : TagsOf → List (Tm × Tm) → ℕ → ℕ → Type 0
  From old more v tag = (is_listed tag (old v) ≡ true) ⊎ ((x : ℕ) × (t : Tm) × Among (Tree.leaf x, t) more × (is_listed tag (old x) ≡ true) × (occurs v (full new t) ≡ true))

  from_before : (old mid : TagsOf) (x : ℕ) (t : Tm) (rest : List (Tm × Tm)) → GivesTags old (old x) (full new t) (Some mid) → Bounds rest → (v tag : ℕ) → From mid rest v tag → From old ((Tree.leaf x, t) ∷ rest) v tag
  from_before old mid x t rest one bounds v tag (inl h) = elim (move_cases old (old x) (full new t) mid one v tag h) [
    | inl there ↦ inl there
    | inr (listed, stands) ↦ inr (x, t, inl refl, listed, stands)
  ]
  from_before old mid x t rest one bounds v tag (inr (y, u, a, h, stands)) =
      let (w, bound) = bounds y u a in
      inr (y, u, inr a, subst (λ ts. is_listed tag ts ≡ true) (move_elsewhere old (old x) (full new t) mid one y (apart t y w bound)) h, stands)

  pub moves_from : (old : TagsOf) (more : List (Tm × Tm)) (r : Option TagsOf) → TagsMove new old more r → Bounds more → (final : TagsOf) → r ≡ Some final → (v tag : ℕ) → is_listed tag (final v) ≡ true → From old more v tag
  moves_from old more r (TagsMove.all_moved {new = made} same) bounds final is v tag h =
      let one : made ≡ final = cc in inl (subst (λ ts. is_listed tag ts ≡ true) (same v) (subst (λ f. is_listed tag (f v) ≡ true) (sym one) h))
  moves_from old more r (TagsMove.moved_one {mid = mid} {x = x} {t = t} {more = rest} one d) bounds final is v tag h =
      from_before old mid x t rest one (λ y u a. bounds y u (inr a)) v tag (moves_from mid rest r d (λ y u a. bounds y u (inr a)) final is v tag h)
  moves_from old more r (TagsMove.not_moved one) bounds final is v tag h = cc

  -- why the moves stop
  abbrev pub Stops : TagsOf → List (Tm × Tm) → Type 0
  Stops old more = (x : ℕ) × (t : Tm) × (tag : ℕ) × Among (Tree.leaf x, t) more × (is_listed tag (old x) ≡ true) × (has_symbol tag (full new t) ≡ true)

  pub moves_stop : (old : TagsOf) (more : List (Tm × Tm)) (r : Option TagsOf) → TagsMove new old more r → Bounds more → r ≡ None → Stops old more
  moves_stop old more r (TagsMove.all_moved same) bounds is = cc
  moves_stop old more r (TagsMove.moved_one {mid = mid} {x = x} {t = t} {more = rest} one d) bounds is = by (moves_stop mid rest r d (λ y u a. bounds y u (inr a)) is)
    where
      by : Stops mid rest → Stops old ((Tree.leaf x, t) ∷ rest)
      by (y, u, tag, a, h, has) =
          let (w, bound) = bounds y u (inr a) in
          (y, u, tag, inr a, subst (λ ts. is_listed tag ts ≡ true) (move_elsewhere old (old x) (full new t) mid one y (apart t y w bound)) h, has)
  moves_stop old more r (TagsMove.not_moved {x = x} {t = t} one) bounds is =
      let (tag, listed, has) = any-symbol (old x) (full new t) one in (x, t, tag, inl refl, listed, has)

-- no tag whose absence is asked stands in its term
abbrev pub TagsAllowed : Replacement → List (Primitive Tm) → Type 0
TagsAllowed s ps = (tag : ℕ) (a : Tm) → Among (Primitive.absent tag a) ps → has_symbol tag (apply s a) ≡ false

module _ (bound new : Pairs) (added : List (Tm × Tm)) (g : Grown bound) (h : Grown new) (put : AddedTo bound added new)
    (s r : Replacement) (makes : (t : Tm) → full bound t ≡ apply s t) (onward : (t : Tm) → full new t ≡ apply r t) (ps : List (Primitive Tm)) where
  bounds : (x : ℕ) (t : Tm) → Among (Tree.leaf x, t) added → (u : Tm) × (bound_to x new ≡ Some u)
  bounds x t a = (t, added-bound bound added new put x t a)

  -- what a term is under the new answer, by what it was
  further : (a : Tm) → apply r a ≡ full new (apply s a)
  further a = sym (onward a) ∙ sym (full-onward bound added new h put a) ∙ ap (full new) (makes a)

  -- a variable that stood in a term isn't bound before
  was_free : (a : Tm) (v : ℕ) → occurs v (apply s a) ≡ true → bound_to v bound ≡ None
  was_free a v there = full_unbound bound g a v (subst (λ t. occurs v t ≡ true) (sym (makes a)) there)

  stands : (a : Tm) (x v : ℕ) (w : Tm) → occurs x (apply s a) ≡ true → full new (Tree.leaf x) ≡ w → occurs v w ≡ true → occurs v (apply r a) ≡ true
  stands a x v w there is in_w = subst (λ t. occurs v t ≡ true) (sym (further a)) (fill-occurs v x (ends new) (apply s a) there (subst (λ t. occurs v t ≡ true) (sym is) in_w))

  -- a tag that came from somewhere is one that a primitive keeps out
  came : (old : TagsOf) → TagsInStep bound old s ps → (v : ℕ) → bound_to v new ≡ None → (tag : ℕ) → From new h old added v tag → has_absence r ps tag v ≡ true
  came old step v free tag (inl listed) =
      let (a, among, there) = has_absence-asked s ps tag v ((step v (unbound-before bound added new put v free) tag).0 listed) in
      has_absence-from r ps tag v a among (stands a v v (Tree.leaf v) there (full-free new v free) (eq-eqb v v refl))
  came old step v free tag (inr (x, t, in_added, listed, in_t)) =
      let (a, among, there) = has_absence-asked s ps tag x ((step x (added-free bound added new put x t in_added) tag).0 listed) in
      has_absence-from r ps tag v a among (stands a x v (full new t) there (full-bound new h x t (added-bound bound added new put x t in_added)) in_t)

  pub tags_step : (old final : TagsOf) → TagsInStep bound old s ps → TagsAllowed s ps → TagsMove new old added (Some final) → TagsInStep new final r ps × TagsAllowed r ps
  tags_step old final step allowed moves = (λ v free tag. (λ listed. came old step v free tag (moves_from new h old added (Some final) moves bounds final refl v tag listed), asked v free tag), allowed_on)
    where
      listed_at : (y tag : ℕ) (a : Tm) → Among (Primitive.absent tag a) ps → occurs y (apply s a) ≡ true → is_listed tag (old y) ≡ true
      listed_at y tag a among there = (step y (was_free a y there) tag).1 (has_absence-from s ps tag y a among there)

      asked : (v : ℕ) → bound_to v new ≡ None → (tag : ℕ) → has_absence r ps tag v ≡ true → is_listed tag (final v) ≡ true
      asked v free tag has =
          let (a, among, there) = has_absence-asked r ps tag v has in
          by a among (occurs-fill v (ends new) (apply s a) (subst (λ t. occurs v t ≡ true) (further a) there))
        where
          by : (a : Tm) → Among (Primitive.absent tag a) ps → (y : ℕ) × (occurs y (apply s a) ≡ true) × (occurs v (ends new y) ≡ true) → is_listed tag (final v) ≡ true
          by a among (y, there, in_y) = on (bound_to y new) refl
            where
              on : (o : Option Tm) → bound_to y new ≡ o → is_listed tag (final v) ≡ true
              on None e =
                  let same : v ≡ y = eqb-true v y (subst (λ t. occurs v t ≡ true) (full-free new y e) in_y) in
                  subst (λ z. is_listed tag (final z) ≡ true) (sym same) (moves_keep new h old added (Some final) moves final refl y tag (listed_at y tag a among there))
              on (Some t) e =
                  let in_added = bound-added bound added new put y t (was_free a y there) e in
                  (moves_put new h old added (Some final) moves final refl y t in_added tag (listed_at y tag a among there)).0 v
                  (subst (λ w. occurs v w ≡ true) (full-bound new h y t e) in_y)

      allowed_on : TagsAllowed r ps
      allowed_on tag a among = false_from_ne_true (has_symbol tag (apply r a)) (λ has. by (has_symbol-fill tag (ends new) (apply s a) (subst (λ t. has_symbol tag t ≡ true) (further a) has)))
        where
          by : (has_symbol tag (apply s a) ≡ true) ⊎ ((y : ℕ) × Contains (leaves (apply s a)) y × (has_symbol tag (ends new y) ≡ true)) → ⊥
          by (inl before) = true≢false (sym before ∙ allowed tag a among)
          by (inr (y, there, in_y)) = on (leaves-occurs y (apply s a) there) (bound_to y new) refl
            where
              on : occurs y (apply s a) ≡ true → (o : Option Tm) → bound_to y new ≡ o → ⊥
              on stood None e = true≢false (sym in_y ∙ ap (has_symbol tag) (full-free new y e))
              on stood (Some t) e =
                  let in_added = bound-added bound added new put y t (was_free a y stood) e in
                  let free = (moves_put new h old added (Some final) moves final refl y t in_added tag (listed_at y tag a among stood)).1 in
                  true≢false (sym in_y ∙ ap (has_symbol tag) (full-bound new h y t e) ∙ free)

  -- where the moves stop, the store isn't kept
  pub tags_stop : (old : TagsOf) → TagsInStep bound old s ps → TagsMove new old added None → TagsAllowed r ps → ⊥
  tags_stop old step moves allowed = by (moves_stop new h old added None moves bounds refl)
    where
      by : Stops new h old added → ⊥
      by (x, t, tag, in_added, listed, has) =
          let (a, among, there) = has_absence-asked s ps tag x ((step x (added-free bound added new put x t in_added) tag).0 listed) in
          let in_value : has_symbol tag (ends new x) ≡ true = subst (λ w. has_symbol tag w ≡ true) (sym (full-bound new h x t (added-bound bound added new put x t in_added))) has in
          true≢false (sym (leaves-has_symbol tag (ends new) (apply s a) x (occurs-leaves x (apply s a) there) in_value) ∙ ap (has_symbol tag) (sym (further a)) ∙ allowed tag a among)
