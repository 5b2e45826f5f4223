-- Numbers in words.
use Rattle.std.proofs.Common.{◌≡◌, ◌<◌, ◌^◌, true, List, ℕ, [], ◌∷◌, length, refl, ap, arith, None}
use Rattle.std.specs.Str.Parse.{digits_value}
use Rattle.std.proofs.lemmas.Bool.Decides.{nat_tests}
use Rattle.kan_grammar.specs.Data.Words.{all_digits}
use Rattle.command_line.specs.Lines.{number_in, in_range}

too_great : (low high n : ℕ) → high < 2 ^ 32 → (n < 2 ^ 32 → ⊥) → None ≡ in_range low high n
too_great low high n small h = grind (arith, nat_tests)

-- digits of a number that is too great
pub no_number : (low high : ℕ) (w : List ℕ) → high < 2 ^ 32 → all_digits w ≡ true → ((0 < length w) × (digits_value 10 w < 2 ^ 32) → ⊥) → None ≡ number_in low high w
no_number low high [] fits digits h = refl
no_number low high (d ∷ ds) fits digits h = rw digits (too_great low high (digits_value 10 (d ∷ ds)) fits (λ small. h (omega arith, small)))

-- digits of a number that is not
pub some_number : (low high : ℕ) (w : List ℕ) (n : ℕ) → all_digits w ≡ true → (0 < length w) × (digits_value 10 w < 2 ^ 32) → n ≡ digits_value 10 w → in_range low high n ≡ number_in low high w
some_number low high [] n digits (some, small) is = absurd (omega (arith, some))
some_number low high (d ∷ ds) n digits (some, small) is = rw digits (ap (in_range low high) is)
