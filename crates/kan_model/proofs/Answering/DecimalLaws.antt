-- Decimal digits don't hang on how many are allowed, where these are enough.
use Rattle.std.proofs.Common.{◌≡◌, ℕ, zero, suc, ◌/◌, ◌%◌, ◌^◌, ◌<◌, Bool, true, false, cond, List, [], ◌∷◌, sym, ap, refl, ◌∙◌, arith}
use Rattle.std.specs.Prelude.{eqb}
use Rattle.std.specs.Fmt.{digits_onto, digits, digit_glyph}
use Rattle.std.proofs.lemmas.Bool.{eq-eqb}
use Rattle.std.proofs.Math.Nat.{div-lt_iff_lt-mul, div-eq_of_lt, pow-suc}
use Rattle.kan_model.specs.Answers.Decimals.{decimal_text, DecimalAsPrinted}

-- one digit, and what follows it where that isn't the last one
digit_first : (k n : ℕ) (acc : List ℕ) (b : Bool) → eqb (n / 10) 0 ≡ b →
    digits_onto (suc k) 10 false n acc ≡ cond b (digit_glyph false (n % 10) ∷ acc) (digits_onto k 10 false (n / 10) (digit_glyph false (n % 10) ∷ acc))
digit_first k n acc b e = ap (λ (c : Bool). cond c (digit_glyph false (n % 10) ∷ acc) (digits_onto k 10 false (n / 10) (digit_glyph false (n % 10) ∷ acc))) e

ends : (k n : ℕ) (acc : List ℕ) → n < 10 → digits_onto (suc k) 10 false n acc ≡ digit_glyph false (n % 10) ∷ acc
ends k n acc small = digit_first k n acc true (eq-eqb (n / 10) 0 (div-eq_of_lt small))

tenth_below : (k n : ℕ) → n < 10 ^ suc (suc k) → n / 10 < 10 ^ suc k
tenth_below k n h = (div-lt_iff_lt-mul {k = 10} {x = n} {y = 10 ^ suc k} (omega arith)).1 (rw (pow-suc 10 (suc k)) at h)

-- two counts that both are enough give the same digits
same_digits : (j k n : ℕ) (acc : List ℕ) → n < 10 ^ suc j → n < 10 ^ suc k → digits_onto (suc j) 10 false n acc ≡ digits_onto (suc k) 10 false n acc
same_digits zero k n acc h l = ends zero n acc h ∙ sym (ends k n acc h)
same_digits (suc j) zero n acc h l = ends (suc j) n acc l ∙ sym (ends zero n acc l)
same_digits (suc j) (suc k) n acc h l =
    by (eqb (n / 10) 0) refl (same_digits j k (n / 10) (digit_glyph false (n % 10) ∷ acc) (tenth_below j n h) (tenth_below k n l))
  where
    by : (b : Bool) → eqb (n / 10) 0 ≡ b →
        digits_onto (suc j) 10 false (n / 10) (digit_glyph false (n % 10) ∷ acc) ≡ digits_onto (suc k) 10 false (n / 10) (digit_glyph false (n % 10) ∷ acc) →
        digits_onto (suc (suc j)) 10 false n acc ≡ digits_onto (suc (suc k)) 10 false n acc
    by true e ih = digit_first (suc j) n acc true e ∙ sym (digit_first (suc k) n acc true e)
    by false e ih = digit_first (suc j) n acc false e ∙ ih ∙ sym (digit_first (suc k) n acc false e)

-- a number has no more digits than itself and one
below_power : (n : ℕ) → n < 10 ^ suc n
below_power zero = omega arith
below_power (suc n) = rw (pow-suc 10 (suc n)) (omega (arith, below_power n))

pub decimal_as_printed : DecimalAsPrinted
unfolding decimal_text digits
decimal_as_printed n h = same_digits n 63 n [] (below_power n) h
