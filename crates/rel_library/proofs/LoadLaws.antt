-- How long the texts of loads are.
use Rattle.std.proofs.Common.{◌≡◌, ◌<◌, ◌≤◌, ◌+◌, ◌*◌, ◌++◌, List, [], ◌∷◌, ℕ, zero, suc, length, codes, arith, length-append}
use Rattle.std.specs.Fmt.{decimal}
use Rattle.std.proofs.lemmas.Fmt.{length-decimal-le}
use Rattle.rel_library.specs.Loads.{gap, numbers_below, splits_line, turns_line, load}
use Rattle.rel_library.specs.Library.{text_of_lines}

short_gap : (n : ℕ) → length (gap n) ≤ 1
short_gap zero = omega arith
short_gap (suc n) = omega arith

short_numbers : (n : ℕ) → n ≤ 400 → length (numbers_below n) ≤ n * 5
short_numbers zero few = omega arith
short_numbers (suc n) few =
    let start : length (numbers_below n) ≤ n * 5 = short_numbers n (omega arith) in
    let digits : length (decimal n) ≤ 4 = length-decimal-le 4 n (omega arith) (omega arith) (omega arith) in
    let whole : length (numbers_below (suc n)) ≡ length (numbers_below n ++ gap n) + length (decimal n) = length-append (numbers_below n ++ gap n) (decimal n) in
    let front : length (numbers_below n ++ gap n) ≡ length (numbers_below n) + length (gap n) = length-append (numbers_below n) (gap n) in
    omega (arith, start, digits, whole, front, short_gap n)

-- the text of a load is shorter than a text may be
pub short_load : (n : ℕ) → n ≤ 400 → length (load n) < 1048576
unfolding load
short_load n few =
    let start : List ℕ = codes "(run* q (fresh (x y) (appendo x y '(" in
    let end : List ℕ = codes ")) (membero 'none x)))" in
    let front : length (start ++ numbers_below n) ≡ length start + length (numbers_below n) = length-append start (numbers_below n) in
    let line : length (splits_line n) ≡ length (start ++ numbers_below n) + length end = length-append (start ++ numbers_below n) end in
    let whole : length (load n) ≡ length (splits_line n) + length (10 ∷ text_of_lines (turns_line ∷ [])) = length-append (splits_line n) (10 ∷ text_of_lines (turns_line ∷ [])) in
    omega (arith, short_numbers n few, front, line, whole)
