-- The texts of generated loads.
use Rattle.std.specs.Prelude.{ℕ, zero, suc, List, [], ◌∷◌, ◌++◌, codes}
use Rattle.std.specs.Fmt.{decimal}
use Rattle.rel_library.specs.Library.{text_of_lines}

-- the greatest number of a load
abbrev pub greatest_load : ℕ
greatest_load = 400

-- what stands before a number in a list: a space, but nothing before the first one
abbrev pub gap : ℕ → List ℕ
gap zero = []
gap (suc n) = codes " "

-- the numbers from 0 up to this one, which isn't among them, with one space between two
abbrev pub numbers_below : ℕ → List ℕ
numbers_below zero = []
numbers_below (suc n) = numbers_below n ++ gap n ++ decimal n

-- all splits of the list, and in each a look for a symbol that isn't there
abbrev pub splits_line : ℕ → List ℕ
splits_line n = codes "(run* q (fresh (x y) (appendo x y '(" ++ numbers_below n
    ++ codes ")) (membero 'none x)))"

-- four answers of two relations that always hold
abbrev pub turns_line : List ℕ
turns_line = codes "(run 4 q (conde ((alwayso) (== q 'a)) ((alwayso) (== q 'b))))"

-- the load of a number
unfoldable pub load : ℕ → List ℕ
load n = text_of_lines (splits_line n ∷ turns_line ∷ [])
