-- When deques and stealers are all that there are.
use Rattle.std.proofs.Common.{◌≡◌, ◌≢◌, ℕ, zero, suc, ◌+◌, ◌<◌, List, [], ◌∷◌, ◌++◌, length, set, cond, sym, refl, ap, ◌∙◌, subst, ⊎_elim, arith}
use Rattle.std.proofs.lemmas.Bool.Decides.{eqb_tells}
use mathlib.Core.Option.{some, some-injective, some-ne-none}
use native.Mathlib.Decide.{ℕ_discrete}
use lib.ListN.{get_elem?}
use Rattle.crossbeam_deque.proofs.Lists.{at_set, set_here, set_else}
use Rattle.task_deques.specs.Shares.{whole}
use Rattle.task_deques.specs.Whole.{DequePart, StealerPart, Every, part_for, parts_for, IsOfDeque, IsAll}
use Rattle.task_deques.proofs.Lists.{total_snoc}

module _ {X : Type 0} where
  pub at_below : (xs : List X) (i : ℕ) (x : X) → get_elem? xs i ≡ some x → i < length xs
  at_below [] i x e = absurd (some-ne-none x (sym e))
  at_below (y ∷ ys) zero x e = omega arith
  at_below (y ∷ ys) (suc i) x e = let p = at_below ys i x e in omega arith

  pub every_last : (P : X → Type 0) (xs : List X) (x : X) → Every P (xs ++ x ∷ []) → P x
  every_last P [] x h = h.0
  every_last P (y ∷ ys) x h = every_last P ys x h.1

  pub every_front : (P : X → Type 0) (xs : List X) (x : X) → Every P (xs ++ x ∷ []) → Every P xs
  every_front P [] x h = tt
  every_front P (y ∷ ys) x h = (h.0, every_front P ys x h.1)

  pub every_as : (P Q : X → Type 0) → ((x : X) → P x → Q x) → (xs : List X) → Every P xs → Every Q xs
  every_as P Q f [] h = tt
  every_as P Q f (y ∷ ys) h = (f y h.0, every_as P Q f ys h.1)

pub part_here : (j : ℕ) (t : StealerPart) → t.0 ≡ j → part_for j t ≡ t.1.1
part_here j t e = ⊎_elim (λ x. ap (λ b. cond b t.1.1 0) x.0) (λ x. absurd (x.1 e)) (eqb_tells t.0 j)

pub part_else : (j : ℕ) (t : StealerPart) → t.0 ≢ j → part_for j t ≡ 0
part_else j t n = ⊎_elim (λ x. absurd (n x.1)) (λ x. ap (λ b. cond b t.1.1 0) x.0) (eqb_tells t.0 j)

pub still_of : (ds : List DequePart) (v : ℕ) (d d' : DequePart) → get_elem? ds v ≡ some d → d'.0 ≡ d.0 → (t : StealerPart) → IsOfDeque ds t → IsOfDeque (set ds v d') t
still_of ds v d d' at same t h = by (ℕ_discrete t.0 v)
  where
    by : Dec (t.0 ≡ v) → IsOfDeque (set ds v d') t
    by (yes p) = (d', subst (λ (j : ℕ). get_elem? (set ds v d') j ≡ some d') (sym p) (set_here ds v d' (at_below ds v d at)), same ∙ ap (λ (x : DequePart). x.0) (some-injective d h.0 (sym at ∙ ap (get_elem? ds) (sym p) ∙ h.1)) ∙ h.2)
    by (no n) = (h.0, set_else ds v t.0 d' n ∙ h.1, h.2)

-- a stealer's parts go into its deque
pub absorbs : (ds : List DequePart) (ts : List StealerPart) (t : StealerPart) (d d' : DequePart) → IsAll ds (ts ++ t ∷ []) → get_elem? ds t.0 ≡ some d → d' ≡ (d.0, d.1 + t.1.1) → IsAll (set ds t.0 d') ts
absorbs ds ts t d d' h at is = record {
  parts = λ j e at'. ⊎_elim
      (λ (x : (j ≡ t.0) × (d' ≡ e)).
      let old = h.parts t.0 d at in
      let more = total_snoc (part_for t.0) ts t in
      let here = part_here t.0 t refl in
      let sum : (d.1 + t.1.1) + parts_for t.0 ts ≡ whole = omega (arith, old, more, here) in
      subst (λ (k : ℕ). e.1 + parts_for k ts ≡ whole) (sym x.0) (subst (λ (y : DequePart). y.1 + parts_for t.0 ts ≡ whole) (sym is ∙ x.1) sum))
      (λ (x : (j ≢ t.0) × (get_elem? ds j ≡ some e)).
      let old = h.parts j e x.1 in
      let more = total_snoc (part_for j) ts t in
      let none = part_else j t (λ p. x.0 (sym p)) in
      omega (arith, old, more, none))
      (at_set ds t.0 j d' e at');
  known = every_as (IsOfDeque ds) (IsOfDeque (set ds t.0 d')) (still_of ds t.0 d d' at (ap (λ (y : DequePart). y.0) is)) ts (every_front (IsOfDeque ds) ts t h.known);
}
