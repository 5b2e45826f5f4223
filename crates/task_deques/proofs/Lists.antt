-- Lists with the same elements, joined lists of a list, and sums.
use Rattle.std.proofs.Common.{◌≡◌, ◌≢◌, ℕ, zero, suc, ◌+◌, ◌≤◌, List, [], ◌∷◌, ◌++◌, set, sym, refl, ap, ◌∙◌, subst, append_assoc, arith}
use Rattle.std.specs.Prelude.{flat_map, IsPermutation}
use Rattle.std.proofs.lemmas.List.Sorted.{IsPermutation-refl, IsPermutation-trans, IsPermutation-sym, IsPermutation-append, IsPermutation-append_comm}
use mathlib.Core.Option.{some, some-injective, some-ne-none}
use lib.ListN.{get_elem?}
use Rattle.task_deques.specs.Shares.{total}

module _ {T : Type 0} where
  pub like : (xs ys : List T) → xs ≡ ys → IsPermutation xs ys
  like xs ys e = subst (IsPermutation xs) e (IsPermutation-refl xs)

  pub then : {xs ys zs : List T} → IsPermutation xs ys → IsPermutation ys zs → IsPermutation xs zs
  then {xs} {ys} {zs} a b = IsPermutation-trans xs ys zs a b

  pub after : (xs : List T) {ys zs : List T} → IsPermutation ys zs → IsPermutation (xs ++ ys) (xs ++ zs)
  after xs {ys} {zs} p = IsPermutation-append xs xs ys zs (IsPermutation-refl xs) p

  pub before : (zs : List T) {xs ys : List T} → IsPermutation xs ys → IsPermutation (xs ++ zs) (ys ++ zs)
  before zs {xs} {ys} p = IsPermutation-append xs ys zs zs p (IsPermutation-refl zs)

  -- what stands between may go to the end
  pub to_end : (us xs js : List T) → IsPermutation ((us ++ xs) ++ js) ((us ++ js) ++ xs)
  to_end us xs js = then (like _ _ (append_assoc us xs js)) (then (after us (IsPermutation-append_comm xs js)) (like _ _ (sym (append_assoc us js xs))))

module _ {T V : Type 0} (f : V → List T) where
  -- one is replaced, and its list stays
  pub steady : (vs : List V) (at : ℕ) (v w : V) → get_elem? vs at ≡ some v → f w ≡ f v → flat_map f (set vs at w) ≡ flat_map f vs
  steady [] at v w here e = absurd (some-ne-none v (sym here))
  steady (u ∷ us) zero v w here e = ap (λ l. l ++ flat_map f us) (e ∙ ap f (sym (some-injective u v here)))
  steady (u ∷ us) (suc at) v w here e = ap (λ l. f u ++ l) (steady us at v w here e)

  -- its list grows
  pub grown : (vs : List V) (at : ℕ) (v w : V) (xs : List T) → get_elem? vs at ≡ some v → f w ≡ f v ++ xs → IsPermutation (flat_map f (set vs at w)) (flat_map f vs ++ xs)
  grown [] at v w xs here e = absurd (some-ne-none v (sym here))
  grown (u ∷ us) zero v w xs here e =
      let longer : f w ≡ f u ++ xs = e ∙ ap (λ y. f y ++ xs) (sym (some-injective u v here)) in
      then (like _ _ (ap (λ l. l ++ flat_map f us) longer)) (to_end (f u) xs (flat_map f us))
  grown (u ∷ us) (suc at) v w xs here e = then (after (f u) (grown us at v w xs here e)) (like _ _ (sym (append_assoc (f u) (flat_map f us) xs)))

  -- its list is emptied
  pub emptied : (vs : List V) (at : ℕ) (v w : V) → get_elem? vs at ≡ some v → f w ≡ [] → IsPermutation (flat_map f vs) (f v ++ flat_map f (set vs at w))
  emptied [] at v w here e = absurd (some-ne-none v (sym here))
  emptied (u ∷ us) zero v w here e = like _ _ (λ i. f (some-injective u v here i) ++ (sym e i ++ flat_map f us))
  emptied (u ∷ us) (suc at) v w here e =
      let rest : List T = flat_map f (set us at w) in
      then (after (f u) (emptied us at v w here e))
      (then (like _ _ (sym (append_assoc (f u) (f v) rest)))
      (then (before rest (IsPermutation-append_comm (f u) (f v))) (like _ _ (append_assoc (f v) (f u) rest))))

  -- one takes in the list of another
  pub moved : (vs : List V) (at other : ℕ) (v w both spent : V) → get_elem? vs at ≡ some v → other ≢ at → get_elem? vs other ≡ some w → f both ≡ f v ++ f w → f spent ≡ []
      → IsPermutation (flat_map f (set (set vs at both) other spent)) (flat_map f vs)
  moved [] at other v w both spent here apart there e n = absurd (some-ne-none v (sym here))
  moved (u ∷ us) zero zero v w both spent here apart there e n = absurd (apart refl)
  moved (u ∷ us) zero (suc other) v w both spent here apart there e n =
      let rest : List T = flat_map f (set us other spent) in
      let joined : f both ≡ f u ++ f w = e ∙ ap (λ y. f y ++ f w) (sym (some-injective u v here)) in
      then (like _ _ (ap (λ l. l ++ rest) joined ∙ append_assoc (f u) (f w) rest)) (after (f u) (IsPermutation-sym _ _ (emptied us other w spent there n)))
  moved (u ∷ us) (suc at) zero v w both spent here apart there e n =
      then (like _ _ (ap (λ l. l ++ flat_map f (set us at both)) n))
      (then (grown us at v both (f w) here e) (then (IsPermutation-append_comm (flat_map f us) (f w)) (like _ _ (ap (λ y. f y ++ flat_map f us) (sym (some-injective u w there))))))
  moved (u ∷ us) (suc at) (suc other) v w both spent here apart there e n = after (f u) (moved us at other v w both spent here (λ p. apart (ap suc p)) there e n)

module _ {V : Type 0} (f : V → ℕ) where
  pub total_set : (vs : List V) (at : ℕ) (v w : V) → get_elem? vs at ≡ some v → total f (set vs at w) + f v ≡ total f vs + f w
  total_set [] at v w here = absurd (some-ne-none v (sym here))
  total_set (u ∷ us) zero v w here = let e = ap f (some-injective u v here) in omega arith
  total_set (u ∷ us) (suc at) v w here = let e = total_set us at v w here in omega arith

  pub total_append : (vs ws : List V) → total f (vs ++ ws) ≡ total f vs + total f ws
  total_append [] ws = omega arith
  total_append (v ∷ vs) ws = let e = total_append vs ws in omega (arith, e)

  pub total_snoc : (vs : List V) (w : V) → total f (vs ++ w ∷ []) ≡ total f vs + f w
  total_snoc vs w = let e = total_append vs (w ∷ []) in omega (arith, e)

  pub total_at : (vs : List V) (at : ℕ) (v : V) → get_elem? vs at ≡ some v → f v ≤ total f vs
  total_at [] at v here = absurd (some-ne-none v (sym here))
  total_at (u ∷ us) zero v here = let e = ap f (some-injective u v here) in omega arith
  total_at (u ∷ us) (suc at) v here = let e = total_at us at v here in omega arith

  pub total_two : (vs : List V) (at other : ℕ) (v u : V) → other ≢ at → get_elem? vs at ≡ some v → get_elem? vs other ≡ some u → f v + f u ≤ total f vs
  total_two [] at other v u n here there = absurd (some-ne-none v (sym here))
  total_two (x ∷ xs) zero zero v u n here there = absurd (n refl)
  total_two (x ∷ xs) zero (suc other) v u n here there = let e = ap f (some-injective x v here) in let p = total_at xs other u there in omega (arith, e, p)
  total_two (x ∷ xs) (suc at) zero v u n here there = let e = ap f (some-injective x u there) in let p = total_at xs at v here in omega (arith, e, p)
  total_two (x ∷ xs) (suc at) (suc other) v u n here there = let p = total_two xs at other v u (λ q. n (ap suc q)) here there in omega (arith, p)
