-- How the deques are dealt.
use Rattle.std.proofs.Common.{◌≡◌, ◌≢◌, ℕ, zero, suc, ◌+◌, ◌-◌, ◌<◌, ◌≤◌, List, [], ◌∷◌, ◌++◌, length, set, map, get_or, sym, refl, ap, ◌∙◌, subst, ⊎_elim, arith}
use Rattle.std.specs.Prelude.{flat_map}
use Rattle.std.proofs.lemmas.Bool.Decides.{eqb_tells}
use Rattle.std.proofs.lemmas.List.{append-nil, map-append, map-set}
use mathlib.Core.Option.{some, some-injective, some-ne-none}
use lib.ListN.{get_elem?}
use Rattle.crossbeam_deque.proofs.Lists.{at_set, at_map}
use Rattle.task_deques.specs.declared.holders.TaskStealer.{TaskStealer}
use Rattle.task_deques.specs.Shares.{whole, total}
use Rattle.task_deques.specs.Whole.{DequePart, StealerPart, Every, part_for, parts_for, IsOfDeque, IsAll}
use Rattle.task_deques.specs.Holders.{Holder, deque_part, stealer_part, deque_of, others_of, holder_part, AreWhole, IsUnusedStealer, IsUnusedDeque, IsUnusedHolder, IsLoneHolder, stealer_parts, parts_lent, AreReady}
use Rattle.task_deques.proofs.Lists.{steady, total_append, total_snoc}
use Rattle.task_deques.proofs.WholeLaws.{every_as, still_of, part_here, part_else}

module _ {X : Type 0} where
  pub every_append : (P : X → Type 0) (xs ys : List X) → Every P xs → Every P ys → Every P (xs ++ ys)
  every_append P [] ys h k = k
  every_append P (x ∷ xs) ys h k = (h.0, every_append P xs ys h.1 k)

  pub every_left : (P : X → Type 0) (xs ys : List X) → Every P (xs ++ ys) → Every P xs
  every_left P [] ys h = tt
  every_left P (x ∷ xs) ys h = (h.0, every_left P xs ys h.1)

  pub every_right : (P : X → Type 0) (xs ys : List X) → Every P (xs ++ ys) → Every P ys
  every_right P [] ys h = h
  every_right P (x ∷ xs) ys h = every_right P xs ys h.1

  pub every_set : (P : X → Type 0) (xs : List X) (i : ℕ) (y : X) → P y → Every P xs → Every P (set xs i y)
  every_set P [] i y p h = h
  every_set P (x ∷ xs) zero y p h = (p, h.1)
  every_set P (x ∷ xs) (suc i) y p h = (h.0, every_set P xs i y p h.1)

  pub every_at : (P : X → Type 0) (xs : List X) (i : ℕ) (x : X) → Every P xs → get_elem? xs i ≡ some x → P x
  every_at P [] i x h e = absurd (some-ne-none x (sym e))
  every_at P (y ∷ ys) zero x h e = subst P (some-injective y x e) h.0
  every_at P (y ∷ ys) (suc i) x h e = every_at P ys i x h.1 e

module _ {X Y : Type 0} (g : X → List Y) where
  -- one list in a row of lists grows by one
  pub total_grown : (f : Y → ℕ) (xs : List X) (i : ℕ) (x y : X) (t : Y) → get_elem? xs i ≡ some x → g y ≡ g x ++ t ∷ [] → total f (flat_map g (set xs i y)) ≡ total f (flat_map g xs) + f t
  total_grown f [] i x y t e is = absurd (some-ne-none x (sym e))
  total_grown f (u ∷ us) zero x y t e is =
      let a = total_append f (g y) (flat_map g us) in
      let b = total_append f (g u) (flat_map g us) in
      let c = total_snoc f (g u) t in
      let d : total f (g y) ≡ total f (g u ++ t ∷ []) = ap (total f) (is ∙ ap (λ z. g z ++ t ∷ []) (sym (some-injective u x e))) in
      omega (arith, a, b, c, d)
  total_grown f (u ∷ us) (suc i) x y t e is =
      let a = total_append f (g u) (flat_map g (set us i y)) in
      let b = total_append f (g u) (flat_map g us) in
      let c = total_grown f us i x y t e is in
      omega (arith, a, b, c)

  pub every_grown : (P : Y → Type 0) (xs : List X) (i : ℕ) (x y : X) (t : Y) → get_elem? xs i ≡ some x → g y ≡ g x ++ t ∷ [] → P t → Every P (flat_map g xs) → Every P (flat_map g (set xs i y))
  every_grown P [] i x y t e is p h = absurd (some-ne-none x (sym e))
  every_grown P (u ∷ us) zero x y t e is p h =
      let mine : Every P (g u) = every_left P (g u) (flat_map g us) h in
      every_append P (g y) (flat_map g us) (subst (Every P) (sym (is ∙ ap (λ z. g z ++ t ∷ []) (sym (some-injective u x e)))) (every_append P (g u) (t ∷ []) mine (p, tt))) (every_right P (g u) (flat_map g us) h)
  every_grown P (u ∷ us) (suc i) x y t e is p h = every_append P (g u) (flat_map g (set us i y)) (every_left P (g u) (flat_map g us) h) (every_grown P us i x y t e is p (every_right P (g u) (flat_map g us) h))

parts_for_le : (j : ℕ) (ts : List StealerPart) → parts_for j ts ≤ total (λ t. t.1.1) ts
parts_for_le j [] = omega arith
parts_for_le j (t ∷ ts) =
    let p = parts_for_le j ts in
    ⊎_elim (λ x. let a = part_here j t x.1 in omega (arith, a, p)) (λ x. let a = part_else j t x.1 in omega (arith, a, p)) (eqb_tells t.0 j)

-- a part of a deque goes to a new stealer
forked : (ds : List DequePart) (ts : List StealerPart) (j : ℕ) (d d' : DequePart) (t : StealerPart) → IsAll ds ts → get_elem? ds j ≡ some d → 0 < d.1 → d' ≡ (d.0, d.1 - 1) → t ≡ (j, (d.0, 1)) → IsAll (set ds j d') (ts ++ t ∷ [])
forked ds ts j d d' t h at some_part is it = record {
  parts = λ k e at'. ⊎_elim
      (λ (x : (k ≡ j) × (d' ≡ e)).
      let old = h.parts j d at in
      let more = total_snoc (part_for j) ts t in
      let here = part_here j t (ap (λ (y : StealerPart). y.0) it) in
      let one : t.1.1 ≡ 1 = ap (λ (y : StealerPart). y.1.1) it in
      let less : d'.1 ≡ d.1 - 1 = ap (λ (y : DequePart). y.1) is in
      let sum : d'.1 + parts_for j (ts ++ t ∷ []) ≡ whole = omega (arith, old, more, here, one, less, some_part) in
      subst (λ (n : ℕ). e.1 + parts_for n (ts ++ t ∷ []) ≡ whole) (sym x.0) (subst (λ (y : DequePart). y.1 + parts_for j (ts ++ t ∷ []) ≡ whole) x.1 sum))
      (λ (x : (k ≢ j) × (get_elem? ds k ≡ some e)).
      let old = h.parts k e x.1 in
      let more = total_snoc (part_for k) ts t in
      let none = part_else k t (λ p. x.0 (sym p ∙ ap (λ (y : StealerPart). y.0) it)) in
      omega (arith, old, more, none))
      (at_set ds j k d' e at');
  known = every_append (IsOfDeque (set ds j d')) ts (t ∷ [])
      (every_as (IsOfDeque ds) (IsOfDeque (set ds j d')) (still_of ds j d d' at (ap (λ (y : DequePart). y.0) is)) ts h.known)
      (subst (IsOfDeque (set ds j d')) (sym it) (still_of ds j d d' at (ap (λ (y : DequePart). y.0) is) (j, (d.0, 1)) (d, at, refl)), tt);
}

module _ {T : Type 0} (n : List ℕ) where
  pub has_part : (hs : List (Holder T)) (j : ℕ) (x : Holder T) → AreReady n hs [] → parts_lent hs ≤ 10000 → get_elem? hs j ≡ some x → 1 < (deque_part (deque_of x)).1
  has_part hs j x h few at =
      let e = h.all.parts j (deque_part (deque_of x)) (at_map (λ h. deque_part (deque_of h)) hs j x at) in
      let nil : parts_for j (flat_map stealer_parts hs ++ []) ≡ parts_for j (flat_map stealer_parts hs) = ap (parts_for j) (append-nil (flat_map stealer_parts hs)) in
      let le = parts_for_le j (flat_map stealer_parts hs) in
      omega (arith, e, nil, le, few)

  -- the holder x of the deque j becomes y, whose deque gave a part to the stealer t
  pub cut_ready : (hs : List (Holder T)) (j : ℕ) (x y : Holder T) (t : StealerPart) → AreReady n hs [] → parts_lent hs ≤ 10000 → get_elem? hs j ≡ some x
      → deque_part (deque_of y) ≡ ((deque_part (deque_of x)).0, (deque_part (deque_of x)).1 - 1) → t ≡ (j, ((deque_part (deque_of x)).0, 1)) → others_of y ≡ others_of x → IsUnusedDeque n (deque_of y)
      → AreReady n (set hs j y) (t ∷ [])
  cut_ready hs j x y t h few at shape it others empty =
      let p = has_part hs j x h few at in
      let same : flat_map stealer_parts (set hs j y) ≡ flat_map stealer_parts hs ++ [] = steady stealer_parts hs j x y at (ap (map stealer_part) others) ∙ sym (append-nil (flat_map stealer_parts hs)) in
      record {
        all = subst (λ (z : List DequePart × List StealerPart). IsAll z.0 (z.1 ++ t ∷ [])) (λ i. (sym (map-set (λ h. deque_part (deque_of h)) hs j y) i, sym same i))
            (forked (map (λ h. deque_part (deque_of h)) hs) (flat_map stealer_parts hs ++ []) j (deque_part (deque_of x)) (deque_part (deque_of y)) t h.all (at_map (λ h. deque_part (deque_of h)) hs j x at) (omega (arith, p)) shape it);
        unused = every_set (IsUnusedHolder n) hs j y (empty, subst (Every (IsUnusedStealer n)) (sym others) (every_at (IsUnusedHolder n) hs j x h.unused at).1) h.unused;
      }

  pub cut_parts : (hs : List (Holder T)) (j : ℕ) (x y : Holder T) → get_elem? hs j ≡ some x → others_of y ≡ others_of x → parts_lent (set hs j y) ≡ parts_lent hs
  cut_parts hs j x y at others = ap (total (λ (t : StealerPart). t.1.1)) (steady stealer_parts hs j x y at (ap (map stealer_part) others))

  grows : (x y : Holder T) (s : TaskStealer T) → others_of y ≡ others_of x ++ s ∷ [] → stealer_parts y ≡ stealer_parts x ++ stealer_part s ∷ []
  grows x y s e = ap (map stealer_part) e ∙ map-append stealer_part (others_of x) (s ∷ [])

  pub give_ready : (hs : List (Holder T)) (i : ℕ) (x y : Holder T) (s : TaskStealer T) → AreReady n hs (stealer_part s ∷ []) → IsUnusedStealer n s → get_elem? hs i ≡ some x → deque_of y ≡ deque_of x → others_of y ≡ others_of x ++ s ∷ [] → AreReady n (set hs i y) []
  give_ready hs i x y s h none at deque others =
      let t : StealerPart = stealer_part s in
      let ts : List StealerPart = flat_map stealer_parts hs in
      let ts' : List StealerPart = flat_map stealer_parts (set hs i y) in
      let deques : map (λ h. deque_part (deque_of h)) (set hs i y) ≡ map (λ h. deque_part (deque_of h)) hs = still hs i x y at (ap deque_part deque) in
      let was : Every (IsOfDeque (map (λ h. deque_part (deque_of h)) hs)) (ts ++ t ∷ []) = h.all.known in
      let now : IsAll (map (λ h. deque_part (deque_of h)) hs) ts' = record {
        parts = λ k e at'.
            let a = h.all.parts k e at' in
            let b = total_snoc (part_for k) ts t in
            let c = total_grown stealer_parts (part_for k) hs i x y t at (grows x y s others) in
            omega (arith, a, b, c);
        known = every_grown stealer_parts (IsOfDeque (map (λ h. deque_part (deque_of h)) hs)) hs i x y t at (grows x y s others) (every_right (IsOfDeque (map (λ h. deque_part (deque_of h)) hs)) ts (t ∷ []) was).0 (every_left (IsOfDeque (map (λ h. deque_part (deque_of h)) hs)) ts (t ∷ []) was);
      } in
      record {
        all = subst (λ (z : List DequePart × List StealerPart). IsAll z.0 z.1) (λ i. (sym deques i, sym (append-nil ts') i)) now;
        unused = let m = every_at (IsUnusedHolder n) hs i x h.unused at in
            every_set (IsUnusedHolder n) hs i y (subst (IsUnusedDeque n) (sym deque) m.0, subst (Every (IsUnusedStealer n)) (sym others) (every_append (IsUnusedStealer n) (others_of x) (s ∷ []) m.1 (none, tt))) h.unused;
      }
    where
      still : (hs : List (Holder T)) (i : ℕ) (x y : Holder T) → get_elem? hs i ≡ some x → deque_part (deque_of y) ≡ deque_part (deque_of x) → map (λ h. deque_part (deque_of h)) (set hs i y) ≡ map (λ h. deque_part (deque_of h)) hs
      still [] i x y at e = refl
      still (u ∷ us) zero x y at e = ap (λ d. d ∷ map (λ h. deque_part (deque_of h)) us) (e ∙ ap (λ (z : Holder T). deque_part (deque_of z)) (sym (some-injective u x at)))
      still (u ∷ us) (suc i) x y at e = ap (λ l. deque_part (deque_of u) ∷ l) (still us i x y at e)

  pub give_parts : (hs : List (Holder T)) (i : ℕ) (x y : Holder T) (s : TaskStealer T) → get_elem? hs i ≡ some x → others_of y ≡ others_of x ++ s ∷ [] → parts_lent (set hs i y) ≡ parts_lent hs + (stealer_part s).1.1
  give_parts hs i x y s at others = total_grown stealer_parts (λ t. t.1.1) hs i x y (stealer_part s) at (grows x y s others)

  pub in_list : (hs : List (Holder T)) (i : ℕ) (x d : Holder T) → i < length hs → x ≡ get_or hs i d → get_elem? hs i ≡ some x
  in_list [] i x d lt e = absurd (omega arith)
  in_list (y ∷ ys) zero x d lt e = ap some (sym e)
  in_list (y ∷ ys) (suc i) x d lt e = in_list ys i x d (omega arith) e

  no_stealers : (hs : List (Holder T)) → Every (IsLoneHolder n) hs → flat_map stealer_parts hs ≡ []
  no_stealers [] h = refl
  no_stealers (x ∷ xs) h = (λ i. map stealer_part (h.0.2 i) ++ no_stealers xs h.1 i)

  new_whole : (hs : List (Holder T)) (j : ℕ) (d : DequePart) → Every (IsLoneHolder n) hs → get_elem? (map (λ h. deque_part (deque_of h)) hs) j ≡ some d → d.1 ≡ whole
  new_whole [] j d h at = absurd (some-ne-none d (sym at))
  new_whole (x ∷ xs) zero d h at = sym (ap (λ (z : DequePart). z.1) (some-injective (deque_part (deque_of x)) d at)) ∙ h.0.0
  new_whole (x ∷ xs) (suc j) d h at = new_whole xs j d h.1 at

  new_empty : (x : Holder T) → IsLoneHolder n x → IsUnusedHolder n x
  new_empty x h = (h.1, subst (Every (IsUnusedStealer n)) (sym h.2) tt)

  pub new_ready : (hs : List (Holder T)) → Every (IsLoneHolder n) hs → AreReady n hs []
  new_ready hs h =
      let none : flat_map stealer_parts hs ++ [] ≡ [] = append-nil (flat_map stealer_parts hs) ∙ no_stealers hs h in
      record {
        all = record {
          parts = λ j d at. let a = new_whole hs j d h at in let b = ap (parts_for j) none in omega (arith, a, b);
          known = subst (Every (IsOfDeque (map (λ h. deque_part (deque_of h)) hs))) (sym none) tt;
        };
        unused = every_as (IsLoneHolder n) (IsUnusedHolder n) new_empty hs h;
      }

  pub new_parts : (hs : List (Holder T)) → Every (IsLoneHolder n) hs → parts_lent hs ≡ 0
  new_parts hs h = ap (total (λ (t : StealerPart). t.1.1)) (no_stealers hs h)

  pub ready_whole : (hs : List (Holder T)) → AreReady n hs [] → AreWhole (map holder_part hs)
  ready_whole hs h = subst (λ (z : List DequePart × List StealerPart). IsAll z.0 z.1) (λ i. (deques hs i, (append-nil (flat_map stealer_parts hs) ∙ stealers hs) i)) h.all
    where
      deques : (hs : List (Holder T)) → map (λ h. deque_part (deque_of h)) hs ≡ map (λ (s : DequePart × List StealerPart). s.0) (map holder_part hs)
      deques [] = refl
      deques (x ∷ xs) = ap (λ l. deque_part (deque_of x) ∷ l) (deques xs)

      stealers : (hs : List (Holder T)) → flat_map stealer_parts hs ≡ flat_map (λ (s : DequePart × List StealerPart). s.1) (map holder_part hs)
      stealers [] = refl
      stealers (x ∷ xs) = ap (λ l. stealer_parts x ++ l) (stealers xs)
