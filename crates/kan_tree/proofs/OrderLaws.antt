-- Orders of places after writes.
use Rattle.std.proofs.Common.{length-set, zero, suc, ◌≡◌, ◌≢◌, ◌<◌, ℕ, List, [], ◌∷◌, length, get_or, true, false, eqb, refl, sym, ap, ◌∙◌, arith}
use Rattle.std.specs.Prelude.{slice_set}
use Rattle.std.proofs.lemmas.Bool.{eqb-true, eqb-false}
use Rattle.std.proofs.lemmas.List.{get_or-set_same, get_or-set_other}
use Rattle.kan_tree.specs.Orders.{IsInverse}

-- by the two cases of two numbers
pub by_same : (P : Type 0) (a b : ℕ) → (a ≡ b → P) → (a ≢ b → P) → P
by_same P a b same other = elim (eqb a b) as (λ r. (eqb a b ≡ r) → P) [ true ↦ λ e. same (eqb-true a b e) | false ↦ λ e. other (eqb-false a b e) ] refl

-- a number that is found in a list is at an index below its length, or the default
get_or_inside : (xs : List ℕ) (i d : ℕ) → get_or xs i d ≢ d → i < length xs
get_or_inside [] i d h = absurd (h refl)
get_or_inside (x ∷ xs) zero d h = omega arith
get_or_inside (x ∷ xs) (suc i) d h = omega (arith, get_or_inside xs i d h)

-- what a list with an inverse has
pub inverse_small : (back there : List ℕ) (d : ℕ) → length back ≡ 16 → IsInverse back there → d < 16 → get_or there d 16 < 16
inverse_small back there d n w h = omega (arith, n, get_or_inside back (get_or there d 16) 16 (λ e. absurd (let f : d ≡ 16 = sym (w d h) ∙ e in omega (arith, f, h))))

-- two places are at different indices
pub apart : (there back : List ℕ) (d e : ℕ) → length there ≡ 16 → length back ≡ 16 → IsInverse back there → d < 16 → e ≢ d → get_or there e 16 ≢ get_or there d 16
apart there back d e n m f low other k = other (sym (f e below) ∙ ap (λ i. get_or back i 16) k ∙ f d low)
  where
    below : e < 16
    below = omega (arith, n, get_or_inside there e 16 (λ j. absurd (omega (arith, k, j, inverse_small back there d m f low))))

module _ (there back : List ℕ) (place index left other : ℕ) (n : length there ≡ 16) (m : length back ≡ 16) (f : IsInverse back there) (g : IsInverse there back) (hp : place < 16) (hi : index < 16) (el : left ≡ get_or there place 16) (eo : other ≡ get_or back index 16) where
  get_or_low : (d : ℕ) → get_or there d 16 ≢ 16 → d < 16
  get_or_low d h = omega (arith, n, get_or_inside there d 16 h)

  abbrev pub there_new : List ℕ
  there_new = slice_set (slice_set there other left) place index

  abbrev pub back_new : List ℕ
  back_new = slice_set (slice_set back left other) index place

  other_low : other < length there
  other_low = omega (arith, n, eo, inverse_small there back index n g hi)

  left_low : left < length back
  left_low = omega (arith, m, el, inverse_small back there place m f hp)

  pub brought_here : get_or there_new place 16 ≡ index
  brought_here = get_or-set_same (slice_set there other left) place index 16 (omega (arith, n, hp, length-set there other left))

  pub brought_exchanged : (d : ℕ) → d ≢ place → d ≡ other → get_or there_new d 16 ≡ left
  brought_exchanged d h e = get_or-set_other (slice_set there other left) place d index 16 h ∙ ap (λ k. get_or (slice_set there other left) k 16) e ∙ get_or-set_same there other left 16 other_low

  pub brought_other : (d : ℕ) → d ≢ place → d ≢ other → get_or there_new d 16 ≡ get_or there d 16
  brought_other d h e = get_or-set_other (slice_set there other left) place d index 16 h ∙ get_or-set_other there other d left 16 e

  back_here : get_or back_new index 16 ≡ place
  back_here = get_or-set_same (slice_set back left other) index place 16 (omega (arith, m, hi, length-set back left other))

  back_left : left ≢ index → get_or back_new left 16 ≡ other
  back_left h = get_or-set_other (slice_set back left other) index left place 16 h ∙ get_or-set_same back left other 16 left_low

  back_rest : (x : ℕ) → x ≢ index → x ≢ left → get_or back_new x 16 ≡ get_or back x 16
  back_rest x h e = get_or-set_other (slice_set back left other) index x place 16 h ∙ get_or-set_other back left x other 16 e

  rest_back : (d : ℕ) → d < 16 → d ≢ place → d ≢ other → get_or back_new (get_or there d 16) 16 ≡ d
  rest_back d low a b = back_rest (get_or there d 16)
      (λ e. b (sym (f d low) ∙ ap (λ k. get_or back k 16) e ∙ sym eo))
      (λ e. a (sym (f d low) ∙ ap (λ k. get_or back k 16) (e ∙ el) ∙ f place hp)) ∙ f d low

  pub brought_inverse : IsInverse back_new there_new
  brought_inverse d low = by_same (get_or back_new (get_or there_new d 16) 16 ≡ d) d place
      (λ same. ap (λ k. get_or back_new (get_or there_new k 16) 16) same ∙ ap (λ k. get_or back_new k 16) brought_here ∙ back_here ∙ sym same)
      (λ a. by_same (get_or back_new (get_or there_new d 16) 16 ≡ d) d other
      (λ e. ap (λ k. get_or back_new k 16) (brought_exchanged d a e) ∙ back_left (λ h. a (e ∙ eo ∙ ap (λ k. get_or back k 16) (sym h ∙ el) ∙ f place hp)) ∙ sym e)
      (λ b. ap (λ k. get_or back_new k 16) (brought_other d a b) ∙ rest_back d low a b))

  -- the place that is at the index
  pub brought_from : (d : ℕ) → d ≢ place → get_or there d 16 ≡ index → get_or there_new d 16 ≡ get_or there place 16
  brought_from d h e = brought_exchanged d h (sym (f d (get_or_low d (λ k. absurd (omega (arith, k, e, hi))))) ∙ ap (λ k. get_or back k 16) e ∙ sym eo) ∙ el

  -- a place that is at another index
  pub brought_rest : (d : ℕ) → d ≢ place → get_or there d 16 ≢ index → get_or there_new d 16 ≡ get_or there d 16
  brought_rest d h e = brought_other d h (λ k. e (ap (λ j. get_or there j 16) (k ∙ eo) ∙ g index hi))
