-- Digits that no u32 is are no number of a range.
use Rattle.std.proofs.Common.{◌≡◌, ◌<◌, true, List, ℕ, length, ◌^◌, ◌∙◌, subst, rules}
use Rattle.std.specs.Result.{OkIff}
use Rattle.std.specs.Str.Parse.{digits_value}
use Rattle.std.proofs.lemmas.Str.Parse.{IsNumeralModel, numerals_by_value, parse_digits}
use Rattle.kan_grammar.specs.Data.Words.{all_digits}
use Rattle.command_line.proofs.NumberLaws.{no_number, some_number}
use Rattle.command_line.proofs.values.number_in.Goals as goal

own : IsNumeralModel (λ ds. all_digits ds ≡ true) (digits_value 10)
own = numerals_by_value _ (search rules)

pub returns-in-Err : goal.returns-in-Err
returns-in-Err c =
    let w : List ℕ = c.args.word.now in
    let digits : all_digits w ≡ true = cc in
    no_number c.args.low c.args.high w (search rules) digits (subst (λ r. OkIff r ((0 < length w) × (digits_value 10 w < 2 ^ 32)) (digits_value 10 w)) c.in-Err.is (parse_digits own 32 w c.parse.result c.parse.ensures.value.0 digits))

pub returns-in-Ok : goal.returns-in-Ok
returns-in-Ok c =
    let w : List ℕ = c.args.word.now in
    let digits : all_digits w ≡ true = cc in
    let (held, is) = subst (λ r. OkIff r ((0 < length w) × (digits_value 10 w < 2 ^ 32)) (digits_value 10 w)) c.in-Ok.is (parse_digits own 32 w c.parse.result c.parse.ensures.value.0 digits) in
    c.in_range.ensures ∙ some_number c.args.low c.args.high w c.in-Ok.number digits held is
