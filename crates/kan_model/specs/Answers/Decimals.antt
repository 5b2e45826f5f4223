-- Numbers in decimal digits, as many as they have.
use Rattle.std.specs.Prelude.{◌≡◌, ℕ, suc, ◌^◌, ◌<◌, false, ℤ, pos, negsuc, List, [], ◌∷◌}
use Rattle.std.specs.Fmt.{digits_onto, decimal}

unfoldable pub decimal_text : ℕ → List ℕ
decimal_text n = digits_onto (suc n) 10 false n []

-- a negative number has a minus sign in front
abbrev pub number_text : ℤ → List ℕ
number_text (pos n) = decimal_text n
number_text (negsuc n) = 45 ∷ decimal_text (suc n)

-- a number with at most 64 digits is written as std writes it
abbrev pub DecimalAsPrinted : Type 0
DecimalAsPrinted = (n : ℕ) → n < 10 ^ 64 → decimal_text n ≡ decimal n
