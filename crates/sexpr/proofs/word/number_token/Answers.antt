-- A word of a sign and digits has a digit, so where it is no number of 128 bits it is out of range.
use Rattle.std.proofs.Common.{◌≡◌, ◌<◌, true, false, List, ℕ, [], ◌∷◌, length, refl, arith, rules}
use Rattle.std.specs.Prelude.{ℤ, pos, negsuc}
use Rattle.std.specs.Int.{w128}
use Rattle.std.specs.Int.RustNames.{FitsSigned}
use Rattle.std.specs.Str.Parse.{without_leading_sign, signed_digits_value, digits_value}
use Rattle.std.proofs.lemmas.Bool.Decides.{nat_tests}
use Rattle.std.proofs.lemmas.Str.Parse.{IsNumeralModel, numerals_by_value}
use Rattle.kan_grammar.specs.Data.Words.{out_of_range, atom, all_digits, begins_with_digit, without_leading_point, is_in_range, number_token}
use Rattle.sexpr.proofs.word.number_token.Goals as goal

own : IsNumeralModel (λ ds. all_digits ds ≡ true) (digits_value 10)
own = numerals_by_value _ (search rules)

outside : (z : ℤ) → (FitsSigned w128 z → ⊥) → is_in_range z ≡ false
outside (pos n) h = grind (arith, nat_tests)
outside (negsuc n) h = grind (arith, nat_tests)

has_digit : (ds : List ℕ) → begins_with_digit (without_leading_point ds) ≡ true → 0 < length ds
has_digit [] h = absurd cc
has_digit (d ∷ ds) h = omega arith

out : (w : List ℕ) → all_digits (without_leading_sign w) ≡ true → is_in_range (signed_digits_value 10 w) ≡ false → atom out_of_range ≡ number_token w
out w digits range = rw (digits, range) refl

pub returns-in-Err : goal.returns-in-Err
returns-in-Err c =
    let w : List ℕ = c.args.word.now in
    let digits : all_digits (without_leading_sign w) ≡ true = cc in
    out w digits (outside (signed_digits_value 10 w) (λ fits. c.in-Err.ensures.value.0 ((has_digit (without_leading_sign w) c.requires, own.to (without_leading_sign w) digits), fits)))
