-- Places after writes.
use Rattle.std.proofs.Common.{map, zero, suc, ◌≡◌, ◌≢◌, ◌<◌, ◌≤◌, ℕ, List, [], ◌∷◌, ◌++◌, length, get_or, Bool, true, false, eqb, refl, sym, ap, ◌∙◌, arith, Option, Some}
use Rattle.std.specs.Prelude.{if◌then◌else◌, slice_get, slice_set}
use Rattle.std.specs.Option.{option_map}
use Rattle.std.proofs.lemmas.Bool.{eqb-true, eqb-false}
use Rattle.std.proofs.lemmas.Option.{slice_get_past, slice_get-map, slice_get_within}
use Rattle.kan_tree.specs.Orders.{IsInverse}
use Rattle.kan_tree.specs.Slots.{index_in, at}
use Rattle.kan_tree.specs.Lending.{with_entry}
use Rattle.kan_tree.specs.declared.slots.Slots.{Slots}
use Rattle.kan_tree.proofs.OrderLaws.{by_same, apart}

-- by the two cases of a test of numbers
pub by_eqb : (P : Bool → Type 0) (a b : ℕ) → (a ≡ b → P true) → (a ≢ b → P false) → P (eqb a b)
by_eqb P a b same other = elim (eqb a b) as (λ r. (eqb a b ≡ r) → P r) [ true ↦ λ e. same (eqb-true a b e) | false ↦ λ e. other (eqb-false a b e) ] refl

length-snoc : {E : Type 0} → (xs : List E) (x : E) → length (xs ++ x ∷ []) ≡ suc (length xs)
length-snoc [] x = refl
length-snoc (y ∷ xs) x = ap (λ n. suc n) (length-snoc xs x)

-- the read at the end of a list that is longer by one
pub get_end : {E : Type 0} → (xs : List E) (x : E) → slice_get (xs ++ x ∷ []) (length xs) ≡ Some x
get_end [] x = refl
get_end (y ∷ xs) x = get_end xs x

pub get_before : {E : Type 0} → (xs : List E) (x : E) (i : ℕ) → i ≢ length xs → slice_get (xs ++ x ∷ []) i ≡ slice_get xs i
get_before [] x zero h = absurd (h refl)
get_before [] x (suc i) h = refl
get_before (y ∷ xs) x zero h = refl
get_before (y ∷ xs) x (suc i) h = get_before xs x i (λ e. h (ap (λ n. suc n) e))

pub get_set_here : {E : Type 0} → (xs : List E) (x : E) (i : ℕ) → i < length xs → slice_get (slice_set xs i x) i ≡ Some x
get_set_here [] x i h = absurd (omega (arith, h))
get_set_here (y ∷ xs) x zero h = refl
get_set_here (y ∷ xs) x (suc i) h = get_set_here xs x i (omega (arith, h))

set_head : {E : Type 0} → (y x : E) (xs : List E) (j : ℕ) → j ≢ 0 → slice_get (x ∷ xs) j ≡ slice_get (y ∷ xs) j
set_head y x xs zero h = absurd (h refl)
set_head y x xs (suc j) h = refl

pub get_set_other : {E : Type 0} → (xs : List E) (x : E) (i j : ℕ) → j ≢ i → slice_get (slice_set xs i x) j ≡ slice_get xs j
get_set_other [] x i j h = refl
get_set_other (y ∷ xs) x zero j h = set_head y x xs j h
get_set_other (y ∷ xs) x (suc i) zero h = refl
get_set_other (y ∷ xs) x (suc i) (suc j) h = get_set_other xs x i j (λ e. h (ap (λ n. suc n) e))

-- a write at the index of a place
pub after_set : {E : Type 0} → (there back : List ℕ) (entries : List E) (place i d : ℕ) (entry : E) → length there ≡ 16 → length back ≡ 16 → IsInverse back there → place < 16 → i ≡ get_or there place 16 → i < length entries →
    slice_get (slice_set entries i entry) (get_or there d 16) ≡ (if eqb d place then Some entry else slice_get entries (get_or there d 16))
after_set there back entries place i d entry n m f low e h =
    by_eqb (λ b. slice_get (slice_set entries i entry) (get_or there d 16) ≡ (if b then Some entry else slice_get entries (get_or there d 16))) d place
    (λ same. rw (same, ← e) (get_set_here entries entry i h))
    (λ other. get_set_other entries entry i _ (λ k. apart there back place d n m f low other (k ∙ e)))

-- an entry that is new at the end, where its place comes to the end of those that are filled
pub after_push : {E : Type 0} → (there there_new back : List ℕ) (entries : List E) (place d : ℕ) (entry : E) → length there ≡ 16 → length back ≡ 16 → IsInverse back there → place < 16 → length entries ≤ get_or there place 16 →
    get_or there_new place 16 ≡ length entries →
    ((e : ℕ) → e ≢ place → get_or there e 16 ≡ length entries → get_or there_new e 16 ≡ get_or there place 16) →
    ((e : ℕ) → e ≢ place → get_or there e 16 ≢ length entries → get_or there_new e 16 ≡ get_or there e 16) →
    slice_get (entries ++ entry ∷ []) (get_or there_new d 16) ≡ (if eqb d place then Some entry else slice_get entries (get_or there d 16))
after_push there there_new back entries place d entry n m f low past here exchanged others =
    by_eqb (λ b. slice_get (entries ++ entry ∷ []) (get_or there_new d 16) ≡ (if b then Some entry else slice_get entries (get_or there d 16))) d place
    (λ same. rw (same, here) (get_end entries entry))
    (λ other. by_same (slice_get (entries ++ entry ∷ []) (get_or there_new d 16) ≡ slice_get entries (get_or there d 16)) (get_or there d 16) (length entries)
    (λ e. rw (exchanged d other e) (slice_get_past (entries ++ entry ∷ []) _ (omega (arith, past, length-snoc entries entry, above e other)) ∙ sym (slice_get_past entries _ (omega (arith, e)))))
    (λ e. rw (others d other e) (get_before entries entry _ e)))
  where
    above : get_or there d 16 ≡ length entries → d ≢ place → get_or there place 16 ≢ length entries
    above e other k = apart there back place d n m f low other (e ∙ sym k)

-- a map over what stands at a place of the mapped list
pub get_map : {A B : Type 0} → (f : A → B) (xs ys : List A) (i : ℕ) → map f xs ≡ map f ys → option_map f (slice_get xs i) ≡ option_map f (slice_get ys i)
get_map f xs ys i h = sym (slice_get-map f xs i) ∙ ap (λ l. slice_get l i) h ∙ slice_get-map f ys i

-- what stands at a place of a copy
pub after_copy : {A B : Type 0} → (f : A → B) (there : List ℕ) (xs ys : List A) (d : ℕ) → map f xs ≡ map f ys →
    option_map f (slice_get xs (get_or there d 16)) ≡ option_map f (slice_get ys (get_or there d 16))
after_copy f there xs ys d h = get_map f xs ys _ h

-- what stands at a place of a copy that is written to
pub after_with : {A B : Type 0} → (f : A → B) (b : Bool) (x : A) (new old older : Option A) → new ≡ (if b then Some x else old) → option_map f old ≡ option_map f older → option_map f new ≡ (if b then Some (f x) else option_map f older)
after_with f true x new old older e h = ap (option_map f) e
after_with f false x new old older e h = ap (option_map f) e ∙ h

-- what stands at a place after another entry is written at the index of one that is filled
pub at_with : {E : Type 0} → (old : Slots E) (i d : ℕ) (x w : E) → length old.order.indices ≡ 16 → length old.order.places ≡ 16 → d < 16 → i ≡ index_in old d → Some x ≡ slice_get old.entries.items i → (e : ℕ) → at (with_entry old i w) e ≡ (if eqb e d then Some w else at old e)
at_with old i d x w n m low h f e = after_set old.order.indices old.order.places old.entries.items d i e w n m old.order.by_place low h (slice_get_within old.entries.items i x (sym f))
