-- Keys and their digits.
use Rattle.std.proofs.Common.{◌≡◌, ◌≢◌, ◌<◌, ◌≤◌, ◌+◌, ◌*◌, ◌/◌, ◌%◌, ◌^◌, ℕ, zero, suc, Bool, true, false, eqb, ltb, eq-eqb, ne_eqb, refl, sym, ap, ◌∙◌, arith, Option, Some, None}
use Rattle.std.specs.Prelude.{if◌then◌else◌, ◌&&◌}
use Rattle.std.proofs.Math.Nat.{div-one, mod-eq_of_lt, mod-lt, div-eq_of_lt, lt-div-mul-add}
use Rattle.std.proofs.Math.Pow.{pow-lt}
use Rattle.std.proofs.lemmas.Nat.{pow_pos, mod-pow-add, mod-mul-add, div-mul-add}
use Rattle.std.proofs.lemmas.Bool.{lt-ltb, ltb-true, ltb-false}
use Rattle.kan_tree.specs.Nodes.{look, agree, digit_of}
use Rattle.kan_tree.specs.Whole.{key_limit, value_below}
use Rattle.kan_tree.specs.declared.nodes.Node.{Node}
use Rattle.kan_tree.proofs.SlotLaws.{by_eqb}

-- by the two cases of a comparison
pub by_ltb : (P : Bool → Type 0) (a b : ℕ) → (a < b → P true) → (b ≤ a → P false) → P (ltb a b)
by_ltb P a b low high = elim (ltb a b) as (λ r. (ltb a b ≡ r) → P r) [ true ↦ λ e. low (ltb-true a b e) | false ↦ λ e. high (ltb-false a b e) ] refl

eqb_two : (a b c d w : ℕ) → b < w → d < w → eqb (a * w + b) (c * w + d) ≡ (eqb a c && eqb b d)
eqb_two a b c d w hb hd =
    by_eqb (λ r. eqb (a * w + b) (c * w + d) ≡ (r && eqb b d)) a c
    (λ s. by_eqb (λ r. eqb (a * w + b) (c * w + d) ≡ r) b d
    (λ t. eq-eqb _ _ (rw (s, t) refl))
    (λ n. ne_eqb _ _ (λ e. n (sym (mod-mul-add a w b hb) ∙ ap (λ x. x % w) e ∙ mod-mul-add c w d hd))))
    (λ n. ne_eqb _ _ (λ e. n (sym (div-mul-add a w b hb) ∙ ap (λ x. x / w) e ∙ div-mul-add c w d hd)))

pub bound_positive : (h : ℕ) → 0 < key_limit h
bound_positive h = omega (arith, pow_pos (suc h * 4))

mod_suc : (h n : ℕ) → n % key_limit (suc h) ≡ digit_of (suc h) n * key_limit h + n % key_limit h
mod_suc h n = (let e : suc (suc h) * 4 ≡ 4 + suc h * 4 = omega arith in ap (λ i. n % 2 ^ i) e) ∙ mod-pow-add n 4 (suc h * 4)

agree_mod : (h k key : ℕ) → agree h k key ≡ eqb (k % key_limit h) (key % key_limit h)
agree_mod zero k key = ap (λ x. eqb (x % 16) (key / 1 % 16)) (div-one k) ∙ ap (λ x. eqb (k % 16) (x % 16)) (div-one key)
agree_mod (suc h) k key =
    ap (λ b. eqb (digit_of (suc h) k) (digit_of (suc h) key) && b) (agree_mod h k key)
    ∙ sym (eqb_two (digit_of (suc h) k) (k % key_limit h) (digit_of (suc h) key) (key % key_limit h) (key_limit h) (mod-lt k (bound_positive h)) (mod-lt key (bound_positive h)))
    ∙ ap (λ x. eqb x (digit_of (suc h) key * key_limit h + key % key_limit h)) (sym (mod_suc h k)) ∙ ap (λ x. eqb (k % key_limit (suc h)) x) (sym (mod_suc h key))

pub agree_eqb : (h k key : ℕ) → k < key_limit h → key < key_limit h → agree h k key ≡ eqb k key
agree_eqb h k key a b = agree_mod h k key ∙ ap (λ x. eqb x (key % key_limit h)) (mod-eq_of_lt a) ∙ ap (λ x. eqb k x) (mod-eq_of_lt b)

-- a write, for whole keys
pub value_put : {T M : Type 0} (m : T → M) (h key : ℕ) (v : M) (made : Node T) (before : ℕ → Option M) → key < key_limit h →
    ((k : ℕ) → look m h k made ≡ (if agree h k key then Some v else before k)) →
    (k : ℕ) → value_below m h made k ≡ (if eqb k key then Some v else (if ltb k (key_limit h) then before k else None))
value_put m h key v made before below w k =
    by_ltb (λ b. (if b then look m h k made else None) ≡ (if eqb k key then Some v else (if b then before k else None))) k (key_limit h)
    (λ low. w k ∙ ap (λ b. if b then Some v else before k) (agree_eqb h k key low below))
    (λ high. ap (λ b. if b then Some v else None) (sym (ne_eqb k key (λ e. absurd (omega (arith, high, below, e))))))

-- a key's digit above those of smaller keys
digit_low : (h k : ℕ) → k < key_limit h → digit_of (suc h) k ≡ 0
digit_low h k low = ap (λ x. x % 16) (div-eq_of_lt low)

digit_high : (h k : ℕ) → key_limit h ≤ k → k < key_limit (suc h) → digit_of (suc h) k ≢ 0
digit_high h k high low e =
    let same : k ≡ 0 * key_limit h + k % key_limit h = sym (mod-eq_of_lt low) ∙ mod_suc h k ∙ ap (λ x. x * key_limit h + k % key_limit h) e in
    absurd (omega (arith, same, mod-lt k (bound_positive h), high))

bound_up : (h k : ℕ) → k < key_limit h → k < key_limit (suc h)
bound_up h k low = omega (arith, low, pow-lt {i = suc h * 4} {j = suc (suc h) * 4} (omega arith))

-- a level above a node
pub value_above : {T M : Type 0} (m : T → M) (h : ℕ) (above root : Node T) →
    ((k : ℕ) → look m (suc h) k above ≡ (if eqb (digit_of (suc h) k) 0 then look m h k root else None)) →
    (k : ℕ) → value_below m (suc h) above k ≡ value_below m h root k
value_above m h above root w k =
    by_ltb (λ b. value_below m (suc h) above k ≡ (if b then look m h k root else None)) k (key_limit h)
    (λ low. ap (λ b. if b then look m (suc h) k above else None) (lt-ltb _ _ (bound_up h k low)) ∙ w k ∙ ap (λ d. if eqb d 0 then look m h k root else None) (digit_low h k low))
    (λ high. by_ltb (λ b. (if b then look m (suc h) k above else None) ≡ None) k (key_limit (suc h))
    (λ low. w k ∙ ap (λ b. if b then look m h k root else None) (ne_eqb _ _ (digit_high h k high low)))
    (λ _. refl))

div_zero : (k n : ℕ) → 0 < n → eqb (k / n) 0 ≡ ltb k n
div_zero k n h =
    by_ltb (λ b. eqb (k / n) 0 ≡ b) k n
    (λ low. eq-eqb _ _ (div-eq_of_lt low))
    (λ high. ne_eqb _ _ (λ e. absurd (let w : k < 0 * n + n = rw (← e) (lt-div-mul-add {a = k} h) in omega (arith, w, high))))

-- the test of a key
pub fits_at : (k level : ℕ) → eqb (k / 2 ^ ((level + 1) * 4)) 0 ≡ ltb k (key_limit level)
fits_at k level = (let e : (level + 1) * 4 ≡ suc level * 4 = omega arith in ap (λ i. eqb (k / 2 ^ i) 0) e) ∙ div_zero k (key_limit level) (bound_positive level)

pub none_if : {M : Type 0} (b : Bool) (o : Option M) → o ≡ None → (if b then o else None) ≡ None
none_if true o e = e
none_if false o e = refl
