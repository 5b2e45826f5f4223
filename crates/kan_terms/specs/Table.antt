-- The table of names: the texts of symbols and of strings, as lists of bytes, in the order of their
-- numbers.
use Rattle.std.specs.Prelude.{◌≢◌, ℕ, suc, Bool, ◌&&◌, ◌||◌, not, eqb, nat_lt, List, [], ◌∷◌, ◌++◌}
use Rattle.std.specs.Prelude.{Option, None, Some, is_some, if◌then◌else◌, option_map, bytes_eq}
use Rattle.std.specs.Prelude.{slice_get}
use Rattle.std.specs.List.{AllPairs, list_all}

-- symbols and strings are numbered apart: the same text may stand in both lists
pub record Table : Type 0 where
  pub symbols : List (List ℕ)
  pub strings : List (List ℕ)

-- the table without texts
abbrev pub no_names : Table
no_names = record { symbols = []; strings = [] }

-- the number of a text: how many texts stand before it
abbrev pub number_of : List (List ℕ) → List ℕ → Option ℕ
number_of [] text = None
number_of (first ∷ rest) text =
    if bytes_eq text first then Some 0 else option_map (λ n. suc n) (number_of rest text)

-- the text that has a number
abbrev pub name_of : List (List ℕ) → ℕ → Option (List ℕ)
name_of texts number = slice_get texts number

-- no text stands in a list twice
abbrev pub IsDistinct : List (List ℕ) → Type 0
IsDistinct texts = AllPairs (λ first second. first ≢ second) texts

-- texts with one among them: the same where it is there, else with it at their end
abbrev pub with_text : List (List ℕ) → List ℕ → List (List ℕ)
with_text texts text = if is_some (number_of texts text) then texts else texts ++ text ∷ []

-- a table with the text of a symbol, or of a string, in it
abbrev pub with_symbol : Table → List ℕ → Table
with_symbol table text = record table { symbols = with_text table.symbols text }

abbrev pub with_string : Table → List ℕ → Table
with_string table text = record table { strings = with_text table.strings text }

-- a byte may stand in a string: no control character of ASCII but tab, line feed and carriage
-- return
abbrev pub is_string_byte : ℕ → Bool
is_string_byte b = (nat_lt 31 b && not (eqb b 127)) || eqb b 9 || eqb b 10 || eqb b 13

abbrev pub is_string_text : List ℕ → Bool
is_string_text = list_all is_string_byte
