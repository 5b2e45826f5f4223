-- Types keep in step with a store when bindings are added.
use Rattle.std.proofs.Common.{◌≡◌, ℕ, Bool, true, false, eqb, List, ◌∷◌, ◌⊎◌, Option, Some, None, inl, inr, sym, ap, subst, refl, ◌∙◌, if◌then◌else◌}
use Rattle.std.proofs.lemmas.Bool.{eq-eqb, eqb-true, true≢false}
use Rattle.kan_terms.specs.Tree.{Tree, Tm}
use Rattle.kan_terms.specs.Bound.{bound_to}
use Rattle.kan_model.specs.Programs.Goals.{Primitive}
use Rattle.kan_model.specs.Stores.Solve.{Replacement, apply}
use Rattle.kan_model.specs.Stores.Kept.{may_be, has_type}
use Rattle.kan_model.specs.declared.prims.Kind.{Kind}
use Rattle.kan_model.specs.declared.prims.Kind.TheVariants.{Symbol, Number, Text}
use Rattle.unify_core.specs.Walking.{Pairs, walk, full}
use Rattle.unify_core.specs.Solutions.{AddedTo}
use Rattle.unify_core.proofs.GrowthLaws.{Grown}
use Rattle.unify_core.proofs.WalkLaws.{full-walk, walk-end}
use Rattle.type_absence.specs.Types.{Types, same_kind, no_other, may_have, with_type, MovesTypes}
use Rattle.kan_store.specs.Moving.{TypesMove}
use Rattle.kan_store.specs.InStep.{TypesInStep}
use Rattle.diseq.specs.Among.{Among}
use Rattle.kan_store.proofs.KeptParts.{typing, has_type-from, has_type-asked, Allowed, OneType}
use Rattle.kan_store.proofs.AddedLaws.{unbound-before, added-free, added-bound, bound-added, full-onward, full-bound, full-free}

pub same_kind-true : (k l : Kind) → same_kind k l ≡ true → k ≡ l
same_kind-true Symbol Symbol h = refl
same_kind-true Number Number h = refl
same_kind-true Text Text h = refl
same_kind-true Symbol Number h = absurd (true≢false (sym h))
same_kind-true Symbol Text h = absurd (true≢false (sym h))
same_kind-true Number Symbol h = absurd (true≢false (sym h))
same_kind-true Number Text h = absurd (true≢false (sym h))
same_kind-true Text Symbol h = absurd (true≢false (sym h))
same_kind-true Text Number h = absurd (true≢false (sym h))

pub same_kind-same : (k : Kind) → same_kind k k ≡ true
same_kind-same Symbol = refl
same_kind-same Number = refl
same_kind-same Text = refl

-- a term is a variable or it isn't
pub variable-or : (t : Tm) → ((v : ℕ) × (t ≡ Tree.leaf v)) ⊎ ((v : ℕ) → t ≡ Tree.leaf v → ⊥)
variable-or (Tree.leaf v) = inl (v, refl)
variable-or (Tree.sym s) = inr (λ v e. cc)
variable-or (Tree.str s) = inr (λ v e. cc)
variable-or (Tree.num n) = inr (λ v e. cc)
variable-or (Tree.truth b) = inr (λ v e. cc)
variable-or Tree.nil = inr (λ v e. cc)
variable-or (Tree.pair a b) = inr (λ v e. cc)

-- what no variable may have is an atom of the type, and it adds no type
pub may_have-other : (types : Types) (k : Kind) (t : Tm) → ((v : ℕ) → t ≡ Tree.leaf v → ⊥) → may_have types k t ≡ may_be k t
may_have-other types k (Tree.leaf v) other = absurd (other v refl)
may_have-other types k (Tree.sym s) other = refl
may_have-other types k (Tree.str s) other = refl
may_have-other types k (Tree.num n) other = refl
may_have-other types k (Tree.truth b) other = refl
may_have-other types k Tree.nil other = refl
may_have-other types k (Tree.pair a b) other = refl

pub with_type-other : (types : Types) (k : Kind) (t : Tm) (y : ℕ) → (t ≡ Tree.leaf y → ⊥) → with_type types k t y ≡ types y
with_type-other types k (Tree.leaf v) y other = by (eqb y v) refl
  where
    by : (c : Bool) → eqb y v ≡ c → (if eqb y v then Some k else types y) ≡ types y
    by true e = absurd (other (ap Tree.leaf (sym (eqb-true y v e))))
    by false e = ap (λ c. if c then Some k else types y) e
with_type-other types k (Tree.sym s) y other = refl
with_type-other types k (Tree.str s) y other = refl
with_type-other types k (Tree.num n) y other = refl
with_type-other types k (Tree.truth b) y other = refl
with_type-other types k Tree.nil y other = refl
with_type-other types k (Tree.pair a b) y other = refl

pub with_type-here : (types : Types) (k : Kind) (t : Tm) (y : ℕ) → t ≡ Tree.leaf y → with_type types k t y ≡ Some k
with_type-here types k t y is = rw is (ap (λ c. if c then Some k else types y) (eq-eqb y y refl))

-- whether two terms are one variable
leaf-decided : (t : Tm) (y : ℕ) → (t ≡ Tree.leaf y) ⊎ (t ≡ Tree.leaf y → ⊥)
leaf-decided t y = elim (variable-or t) [
  | inl (v, is) ↦ by v is (eqb v y) refl
  | inr other ↦ inr (other y)
]
  where
    by : (v : ℕ) → t ≡ Tree.leaf v → (c : Bool) → eqb v y ≡ c → (t ≡ Tree.leaf y) ⊎ (t ≡ Tree.leaf y → ⊥)
    by v is true e = inl (is ∙ ap Tree.leaf (eqb-true v y e))
    by v is false e = inr (λ same. (let one : Tree.leaf v ≡ Tree.leaf y = sym is ∙ same in let equal : v ≡ y = cc in true≢false (sym (eq-eqb v y equal) ∙ e)))

-- one type, if there is one, that goes over to a term; w is what the term walks to
module _ (old : Types) (o : Option Kind) (w : Tm) (mid : Types) (moves : MovesTypes old o w (Some mid)) where
  gives : (k : Kind) → o ≡ Some k → (may_have old k w ≡ true) × ((v : ℕ) → mid v ≡ with_type old k w v)
  gives k has = subst (λ c. MovesTypes old c w (Some mid)) has moves

  pub move_elsewhere : (y : ℕ) → (w ≡ Tree.leaf y → ⊥) → mid y ≡ old y
  move_elsewhere y other = by o refl
    where
      by : (c : Option Kind) → o ≡ c → mid y ≡ old y
      by None e = let same : (v : ℕ) → mid v ≡ old v = subst (λ c. MovesTypes old c w (Some mid)) e moves in same y
      by (Some k) e = (gives k e).1 y ∙ with_type-other old k w y other

  pub move_puts : (y : ℕ) (k : Kind) → o ≡ Some k → w ≡ Tree.leaf y → mid y ≡ Some k
  move_puts y k has is = (gives k has).1 y ∙ with_type-here old k w y is

  pub move_may : (k : Kind) → o ≡ Some k → may_be k w ≡ true
  move_may k has = by w (gives k has).0
    where
      by : (u : Tm) → may_have old k u ≡ true → may_be k u ≡ true
      by (Tree.leaf v) h = leaf_may k
        where
          leaf_may : (k : Kind) → may_be k (Tree.leaf v) ≡ true
          leaf_may Symbol = refl
          leaf_may Number = refl
          leaf_may Text = refl
      by (Tree.sym s) h = h
      by (Tree.str s) h = h
      by (Tree.num n) h = h
      by (Tree.truth b) h = h
      by Tree.nil h = h
      by (Tree.pair a b) h = h

  pub move_keeps : (y : ℕ) (k : Kind) → old y ≡ Some k → mid y ≡ Some k
  move_keeps y k has = elim (leaf-decided w y) [
    | inr other ↦ move_elsewhere y other ∙ has
    | inl is ↦ by is o refl
  ]
    where
      by : w ≡ Tree.leaf y → (c : Option Kind) → o ≡ c → mid y ≡ Some k
      by is None e = let same : (v : ℕ) → mid v ≡ old v = subst (λ c. MovesTypes old c w (Some mid)) e moves in same y ∙ has
      by is (Some l) e =
          let may : no_other l (old y) ≡ true = subst (λ u. may_have old l u ≡ true) is (gives l e).0 in
          let known : same_kind l k ≡ true = subst (λ o. no_other l o ≡ true) has may in
          move_puts y l e is ∙ ap Some (same_kind-true l k known)

  pub move_cases : (y : ℕ) (k : Kind) → mid y ≡ Some k → (old y ≡ Some k) ⊎ ((o ≡ Some k) × (w ≡ Tree.leaf y))
  move_cases y k has = elim (leaf-decided w y) [
    | inr other ↦ inl (sym (move_elsewhere y other) ∙ has)
    | inl is ↦ by is o refl
  ]
    where
      by : w ≡ Tree.leaf y → (c : Option Kind) → o ≡ c → (old y ≡ Some k) ⊎ ((o ≡ Some k) × (w ≡ Tree.leaf y))
      by is None e = let same : (v : ℕ) → mid v ≡ old v = subst (λ c. MovesTypes old c w (Some mid)) e moves in inl (sym (same y) ∙ has)
      by is (Some l) e = let both : Some l ≡ Some k = sym (move_puts y l e is) ∙ has in inr (e ∙ both, is)

-- a move that can't be made
abbrev pub Stuck : Types → Option Kind → Tm → Type 0
Stuck old o w = (k : Kind) × (o ≡ Some k) × ((may_be k w ≡ false) ⊎ ((y : ℕ) × (l : Kind) × (w ≡ Tree.leaf y) × (old y ≡ Some l) × (same_kind k l ≡ false)))

pub move_stuck : (old : Types) (o : Option Kind) (w : Tm) → MovesTypes old o w None → Stuck old o w
move_stuck old o w moves = by o refl
  where
    by : (c : Option Kind) → o ≡ c → Stuck old o w
    by None e = absurd (subst (λ c. MovesTypes old c w None) e moves)
    by (Some k) e = (
      k,
      e,
      elim (variable-or w) [
        | inr other ↦ inl (sym (may_have-other old k w other) ∙ can't)
        | inl (y, is) ↦ inr (other_type y is (old y) refl)
      ],
    )
      where
        can't : may_have old k w ≡ false
        can't = subst (λ c. MovesTypes old c w None) e moves

        other_type : (y : ℕ) → w ≡ Tree.leaf y → (o : Option Kind) → old y ≡ o → (y : ℕ) × (l : Kind) × (w ≡ Tree.leaf y) × (old y ≡ Some l) × (same_kind k l ≡ false)
        other_type y is None f = absurd (true≢false (subst (λ o. no_other k o ≡ false) f (subst (λ u. may_have old k u ≡ false) is can't)))
        other_type y is (Some l) f = (y, l, is, f, subst (λ o. no_other k o ≡ false) f (subst (λ u. may_have old k u ≡ false) is can't))

-- all moves along pairs of variables that are bound by now
module _ (new : Pairs) (g : Grown new) where
  abbrev Bounds : List (Tm × Tm) → Type 0
  Bounds more = (x : ℕ) (t : Tm) → Among (Tree.leaf x, t) more → (u : Tm) × (bound_to x new ≡ Some u)

  -- what a term walks to isn't bound
  apart : (t : Tm) (x : ℕ) (u : Tm) → bound_to x new ≡ Some u → walk new t ≡ Tree.leaf x → ⊥
  apart t x u bound is = let bad : None ≡ Some u = sym (walk-end new g t x is) ∙ bound in cc

  pub moves_keep : (old : Types) (more : List (Tm × Tm)) (r : Option Types) → TypesMove new old more r → (final : Types) → r ≡ Some final → (v : ℕ) (k : Kind) → old v ≡ Some k → final v ≡ Some k
  moves_keep old more r (TypesMove.all_moved {new = made} same) final is v k has = let one : made ≡ final = cc in subst (λ f. f v ≡ Some k) one (same v ∙ has)
  moves_keep old more r (TypesMove.moved_one {mid = mid} {x = x} {t = t} {more = rest} one d) final is v k has =
      moves_keep mid rest r d final is v k (move_keeps old (old x) (walk new t) mid one v k has)
  moves_keep old more r (TypesMove.not_moved one) final is v k has = cc

  pub moves_put : (old : Types) (more : List (Tm × Tm)) (r : Option Types) → TypesMove new old more r → (final : Types) → r ≡ Some final → (x : ℕ) (t : Tm) → Among (Tree.leaf x, t) more →
      (k : Kind) → old x ≡ Some k → ((v : ℕ) → walk new t ≡ Tree.leaf v → final v ≡ Some k) × (may_be k (walk new t) ≡ true)
  moves_put old more r (TypesMove.all_moved same) final is x t none k has = absurd none
  moves_put old more r (TypesMove.moved_one {mid = mid} {x = y} {t = u} {more = rest} one d) final is x t (inl e) k has =
      let first : Tree.leaf y ≡ Tree.leaf x = ap (λ p. p.0) e in
      let same : y ≡ x = cc in
      let term : u ≡ t = ap (λ p. p.1) e in
      let at : old y ≡ Some k = ap old same ∙ has in (
        λ v walks. moves_keep mid rest r d final is v k (move_puts old (old y) (walk new u) mid one v k at (ap (walk new) term ∙ walks)),
        subst (λ w. may_be k (walk new w) ≡ true) term (move_may old (old y) (walk new u) mid one k at),
      )
  moves_put old more r (TypesMove.moved_one {mid = mid} {x = y} {t = u} {more = rest} one d) final is x t (inr a) k has =
      moves_put mid rest r d final is x t a k (move_keeps old (old y) (walk new u) mid one x k has)
  moves_put old more r (TypesMove.not_moved one) final is x t a k has = cc

  -- where a type comes from: it was there, or a variable brought it
  abbrev pub From : Types → List (Tm × Tm) → ℕ → Kind → Type 0
  From old more v k = (old v ≡ Some k) ⊎ ((x : ℕ) × (t : Tm) × Among (Tree.leaf x, t) more × (old x ≡ Some k) × (walk new t ≡ Tree.leaf v))

  from_before : (old mid : Types) (x : ℕ) (t : Tm) (rest : List (Tm × Tm)) → MovesTypes old (old x) (walk new t) (Some mid) → Bounds rest → (v : ℕ) (k : Kind) → From mid rest v k → From old ((Tree.leaf x, t) ∷ rest) v k
  from_before old mid x t rest one bounds v k (inl has) = elim (move_cases old (old x) (walk new t) mid one v k has) [
    | inl there ↦ inl there
    | inr (at, walks) ↦ inr (x, t, inl refl, at, walks)
  ]
  from_before old mid x t rest one bounds v k (inr (y, u, a, has, walks)) =
      let (w, bound) = bounds y u a in
      inr (y, u, inr a, sym (move_elsewhere old (old x) (walk new t) mid one y (λ is. apart t y w bound is)) ∙ has, walks)

  pub moves_from : (old : Types) (more : List (Tm × Tm)) (r : Option Types) → TypesMove new old more r → Bounds more → (final : Types) → r ≡ Some final → (v : ℕ) (k : Kind) → final v ≡ Some k → From old more v k
  moves_from old more r (TypesMove.all_moved {new = made} same) bounds final is v k has = let one : made ≡ final = cc in inl (sym (same v) ∙ subst (λ f. f v ≡ Some k) (sym one) has)
  moves_from old more r (TypesMove.moved_one {mid = mid} {x = x} {t = t} {more = rest} one d) bounds final is v k has =
      from_before old mid x t rest one (λ y u a. bounds y u (inr a)) v k (moves_from mid rest r d (λ y u a. bounds y u (inr a)) final is v k has)
  moves_from old more r (TypesMove.not_moved one) bounds final is v k has = cc

  -- why the moves stop
  abbrev pub Stops : Types → List (Tm × Tm) → Type 0
  Stops old more = (x : ℕ) × (t : Tm) × (k : Kind) × Among (Tree.leaf x, t) more × (old x ≡ Some k)
      × ((may_be k (walk new t) ≡ false) ⊎ ((y : ℕ) × (l : Kind) × (walk new t ≡ Tree.leaf y) × From old more y l × (same_kind k l ≡ false)))

  pub moves_stop : (old : Types) (more : List (Tm × Tm)) (r : Option Types) → TypesMove new old more r → Bounds more → r ≡ None → Stops old more
  moves_stop old more r (TypesMove.all_moved same) bounds is = cc
  moves_stop old more r (TypesMove.moved_one {mid = mid} {x = x} {t = t} {more = rest} one d) bounds is =
      by (moves_stop mid rest r d (λ y u a. bounds y u (inr a)) is)
    where
      by : Stops mid rest → Stops old ((Tree.leaf x, t) ∷ rest)
      by (y, u, k, a, has, why) =
          let (w, bound) = bounds y u (inr a) in (
            y,
            u,
            k,
            inr a,
            sym (move_elsewhere old (old x) (walk new t) mid one y (λ is. apart t y w bound is)) ∙ has,
            elim why [
              | inl atom ↦ inl atom
              | inr (z, l, walks, from, differ) ↦ inr (z, l, walks, from_before old mid x t rest one (λ y u a. bounds y u (inr a)) z l from, differ)
            ],
          )
  moves_stop old more r (TypesMove.not_moved {x = x} {t = t} one) bounds is = by (move_stuck old (old x) (walk new t) one)
    where
      by : Stuck old (old x) (walk new t) → Stops old more
      by (k, has, inl atom) = (x, t, k, inl refl, has, inl atom)
      by (k, has, inr (y, l, walks, there, differ)) = (x, t, k, inl refl, has, inr (y, l, walks, inl there, differ))

-- each type that is asked may be
abbrev pub TypesAllowed : Replacement → List (Primitive Tm) → Type 0
TypesAllowed s ps = (k : Kind) (a : Tm) → Among (typing k a) ps → may_be k (apply s a) ≡ true

pub types_allowed : (s : Replacement) (ps : List (Primitive Tm)) → Allowed s ps → TypesAllowed s ps
types_allowed s ps allowed Symbol a among = allowed (Primitive.symbol a) among
types_allowed s ps allowed Number a among = allowed (Primitive.number a) among
types_allowed s ps allowed Text a among = allowed (Primitive.text a) among

-- an atom of a type is the same under any bindings, and what isn't one isn't one
pub may_be-onward : (k : Kind) (bound : Pairs) (t : Tm) → ((v : ℕ) → t ≡ Tree.leaf v → ⊥) → may_be k (full bound t) ≡ may_be k t
may_be-onward k bound (Tree.leaf v) other = absurd (other v refl)
may_be-onward k bound (Tree.sym s) other = refl
may_be-onward k bound (Tree.str s) other = refl
may_be-onward k bound (Tree.num n) other = refl
may_be-onward k bound (Tree.truth b) other = refl
may_be-onward k bound Tree.nil other = refl
may_be-onward Symbol bound (Tree.pair a b) other = refl
may_be-onward Number bound (Tree.pair a b) other = refl
may_be-onward Text bound (Tree.pair a b) other = refl

pub leaf_may : (k : Kind) (v : ℕ) → may_be k (Tree.leaf v) ≡ true
leaf_may Symbol v = refl
leaf_may Number v = refl
leaf_may Text v = refl

pub full-variable : (bound : Pairs) (t : Tm) (v : ℕ) → full bound t ≡ Tree.leaf v → (u : ℕ) × (t ≡ Tree.leaf u)
full-variable bound (Tree.leaf u) v h = (u, refl)
full-variable bound (Tree.sym s) v h = cc
full-variable bound (Tree.str s) v h = cc
full-variable bound (Tree.num n) v h = cc
full-variable bound (Tree.truth b) v h = cc
full-variable bound Tree.nil v h = cc
full-variable bound (Tree.pair a b) v h = cc

-- what a term walks to may be of a type where its full value may
pub may_be-full : (k : Kind) (bound : Pairs) (w : Tm) → ((v : ℕ) → w ≡ Tree.leaf v → bound_to v bound ≡ None) → may_be k (full bound w) ≡ may_be k w
may_be-full k bound w free = elim (variable-or w) [
  | inl (v, is) ↦ ap (may_be k) (ap (full bound) is ∙ full-free bound v (free v is)) ∙ leaf_may k v ∙ sym (ap (may_be k) is ∙ leaf_may k v)
  | inr other ↦ may_be-onward k bound w other
]

module _ (bound new : Pairs) (added : List (Tm × Tm)) (g : Grown bound) (h : Grown new) (put : AddedTo bound added new)
    (s r : Replacement) (makes : (t : Tm) → full bound t ≡ apply s t) (onward : (t : Tm) → full new t ≡ apply r t) (ps : List (Primitive Tm)) where
  bounds : (x : ℕ) (t : Tm) → Among (Tree.leaf x, t) added → (u : Tm) × (bound_to x new ≡ Some u)
  bounds x t a = (t, added-bound bound added new put x t a)

  -- what a term is under the new answer, by what it was
  further : (a : Tm) → apply r a ≡ full new (apply s a)
  further a = sym (onward a) ∙ sym (full-onward bound added new h put a) ∙ ap (full new) (makes a)

  -- a variable that a term was isn't bound before
  was_free : (a : Tm) (v : ℕ) → apply s a ≡ Tree.leaf v → bound_to v bound ≡ None
  was_free a v is = by (full-variable bound (walk bound a) v (full-walk bound g a ∙ makes a ∙ is))
    where
      by : (u : ℕ) × (walk bound a ≡ Tree.leaf u) → bound_to v bound ≡ None
      by (u, walks) =
          let free = walk-end bound g a u walks in
          let one : Tree.leaf u ≡ Tree.leaf v = sym (full-free bound u free) ∙ ap (full bound) (sym walks) ∙ full-walk bound g a ∙ makes a ∙ is in
          let same : u ≡ v = cc in
          subst (λ w. bound_to w bound ≡ None) same free

  -- what a bound variable walks to, where its full value is a variable
  leads : (t : Tm) (v : ℕ) → full new t ≡ Tree.leaf v → walk new t ≡ Tree.leaf v
  leads t v is = by (full-variable new (walk new t) v (full-walk new h t ∙ is))
    where
      by : (u : ℕ) × (walk new t ≡ Tree.leaf u) → walk new t ≡ Tree.leaf v
      by (u, walks) =
          let one : Tree.leaf u ≡ Tree.leaf v = sym (full-free new u (walk-end new h t u walks)) ∙ ap (full new) (sym walks) ∙ full-walk new h t ∙ is in
          let same : u ≡ v = cc in
          walks ∙ ap Tree.leaf same

  -- a type that came from somewhere is one that a primitive gives
  came : (old : Types) → TypesInStep bound old s ps → (v : ℕ) → bound_to v new ≡ None → (k : Kind) → From new h old added v k → has_type k r ps v ≡ true
  came old step v free k (inl has) =
      let (a, among, is) = has_type-asked s ps k v ((step v (unbound-before bound added new put v free) k).0 has) in
      has_type-from r ps k v a among (further a ∙ ap (full new) is ∙ full-free new v free)
  came old step v free k (inr (x, t, in_added, has, walks)) =
      let (a, among, is) = has_type-asked s ps k x ((step x (added-free bound added new put x t in_added) k).0 has) in
      has_type-from r ps k v a among (further a ∙ ap (full new) is ∙ full-bound new h x t (added-bound bound added new put x t in_added)
      ∙ sym (full-walk new h t) ∙ ap (full new) walks ∙ full-free new v free)

  pub types_step : (old final : Types) → TypesInStep bound old s ps → TypesAllowed s ps → TypesMove new old added (Some final) → TypesInStep new final r ps × TypesAllowed r ps
  types_step old final step allowed moves = (λ v free k. (λ has. came old step v free k (moves_from new h old added (Some final) moves bounds final refl v k has), asked v free k), allowed_on)
    where
      -- of a term that was the variable u
      at : (u : ℕ) (k : Kind) (a : Tm) → Among (typing k a) ps → apply s a ≡ Tree.leaf u → old u ≡ Some k
      at u k a among is = (step u (was_free a u is) k).1 (has_type-from s ps k u a among is)

      asked : (v : ℕ) → bound_to v new ≡ None → (k : Kind) → has_type k r ps v ≡ true → final v ≡ Some k
      asked v free k has = let (a, among, is) = has_type-asked r ps k v has in by a among is (full-variable new (apply s a) v (sym (further a) ∙ is))
        where
          by : (a : Tm) → Among (typing k a) ps → apply r a ≡ Tree.leaf v → (u : ℕ) × (apply s a ≡ Tree.leaf u) → final v ≡ Some k
          by a among is (u, was) = on (bound_to u new) refl
            where
              on : (o : Option Tm) → bound_to u new ≡ o → final v ≡ Some k
              on None e =
                  let one : Tree.leaf u ≡ Tree.leaf v = sym (full-free new u e) ∙ ap (full new) (sym was) ∙ sym (further a) ∙ is in
                  let same : u ≡ v = cc in
                  moves_keep new h old added (Some final) moves final refl v k (subst (λ w. old w ≡ Some k) same (at u k a among was))
              on (Some t) e =
                  let in_added = bound-added bound added new put u t (was_free a u was) e in
                  let value : full new t ≡ Tree.leaf v = sym (full-bound new h u t e) ∙ ap (full new) (sym was) ∙ sym (further a) ∙ is in
                  (moves_put new h old added (Some final) moves final refl u t in_added k (at u k a among was)).0 v (leads t v value)

      allowed_on : TypesAllowed r ps
      allowed_on k a among = subst (λ t. may_be k t ≡ true) (sym (further a)) (elim (variable-or (apply s a)) [
        | inr other ↦ may_be-onward k new (apply s a) other ∙ allowed k a among
        | inl (u, was) ↦ by u was (bound_to u new) refl
      ])
        where
          by : (u : ℕ) → apply s a ≡ Tree.leaf u → (o : Option Tm) → bound_to u new ≡ o → may_be k (full new (apply s a)) ≡ true
          by u was None e = subst (λ t. may_be k t ≡ true) (sym (ap (full new) was ∙ full-free new u e)) (leaf_may k u)
          by u was (Some t) e =
              let in_added = bound-added bound added new put u t (was_free a u was) e in
              let may = (moves_put new h old added (Some final) moves final refl u t in_added k (at u k a among was)).1 in
              subst (λ w. may_be k w ≡ true) (sym (ap (full new) was ∙ full-bound new h u t e ∙ sym (full-walk new h t))) (may_be-full k new (walk new t) (λ v walks. walk-end new h t v walks) ∙ may)

  -- where the moves stop, the store isn't kept
  pub types_stop : (old : Types) → TypesInStep bound old s ps → TypesMove new old added None → TypesAllowed r ps → OneType r ps → ⊥
  types_stop old step moves allowed one = by (moves_stop new h old added None moves bounds refl)
    where
      by : Stops new h old added → ⊥
      by (x, t, k, in_added, has, why) =
          let (a, among, is) = has_type-asked s ps k x ((step x (added-free bound added new put x t in_added) k).0 has) in
          let value : apply r a ≡ full new (walk new t) = further a ∙ ap (full new) is ∙ full-bound new h x t (added-bound bound added new put x t in_added) ∙ sym (full-walk new h t) in
          elim why [
            | inl atom ↦ (elim (variable-or (walk new t)) [
              | inl (v, walks) ↦ true≢false (sym (subst (λ w. may_be k w ≡ true) (sym walks) (leaf_may k v)) ∙ atom)
              | inr other ↦ true≢false (sym (allowed k a among) ∙ ap (may_be k) value ∙ may_be-onward k new (walk new t) other ∙ atom)
            ])
            | inr (y, l, walks, from, differ) ↦ (
                let free = walk-end new h t y walks in
                let same : k ≡ l = one y k l (has_type-from r ps k y a among (value ∙ ap (full new) walks ∙ full-free new y free)) (came old step y free l from) in
                true≢false (sym (same_kind-same k) ∙ ap (same_kind k) same ∙ differ))
          ]
