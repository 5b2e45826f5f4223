-- The words of an answer's line: names, numbers and symbols.
use Rattle.std.specs.Prelude.{◌≡◌, ℕ, ◌+◌, ◌^◌, ◌<◌, ◌≤◌, Bool, true, false, ◌&&◌, not, nat_lt}
use Rattle.std.specs.Prelude.{List, [], ◌∷◌, length}
use Rattle.std.specs.List.{list_all}
use Rattle.std.specs.Str.{is_utf8}
use Rattle.kan_terms.specs.Table.{Table, IsDistinct, is_string_text}
use Rattle.kan_grammar.specs.Data.Words.{is_dot, is_in_range, is_reserved, is_word_byte}
use Rattle.kan_grammar.specs.Data.Words.{looks_like_number}
use Rattle.kan_grammar.specs.Texts.TextNames.{GoesOn}
use Rattle.kan_model.specs.Answers.InForm.{is_filled}
use Rattle.reify.specs.declared.shaping.Shape.{Shape}
use Rattle.reify.specs.declared.shaping.Shape.TheVariants.{Pair, Name, Sym, Str, Num, Truth, Nil}

-- a word that is no point, number or name
abbrev pub is_plain : List ℕ → Bool
is_plain w =
    is_filled w && list_all is_word_byte w && not (is_dot w) && not (looks_like_number w)
    && not (is_reserved w)

-- a text is spelled as a symbol: as one word of characters that is no point, number or name
abbrev pub is_symbol : List ℕ → Bool
is_symbol w = is_plain w && is_utf8 w

-- a text of characters that a string may hold
abbrev pub is_string : List ℕ → Bool
is_string w = is_string_text w && is_utf8 w

-- the names of a table are spelled as symbols
abbrev pub AreSymbols : Table → Type 0
AreSymbols table = list_all is_symbol table.symbols ≡ true

-- a table whose texts differ, over which lines can be read
pub record IsSpelled (table : Table) : Type 0 where
  pub symbols_apart : IsDistinct table.symbols
  pub strings_apart : IsDistinct table.strings
  pub symbols : AreSymbols table
  pub strings : list_all is_string table.strings ≡ true

-- a table over which lines can be read goes on from another one
pub record Continues (old new : Table) : Type 0 where
  pub goes_on : GoesOn old new
  pub spelled : IsSpelled new

-- a shape is of a name, number or text that there can be
abbrev pub is_fine : Table → Shape → Bool
is_fine table Pair = true
is_fine table (Name n) = nat_lt n (2 ^ 64)
is_fine table (Sym s) = nat_lt s (length table.symbols)
is_fine table (Str s) = nat_lt s (length table.strings)
is_fine table (Num z) = is_in_range z
is_fine table (Truth b) = true
is_fine table Nil = true

-- the text of a shape is a word
abbrev pub is_worded : Shape → Bool
is_worded (Name n) = true
is_worded (Sym s) = true
is_worded (Num z) = true
is_worded _ = false

-- no word goes on in a text
abbrev pub ends : List ℕ → Bool
ends [] = true
ends (b ∷ bs) = not (is_word_byte b)

-- texts of so many bytes can have names in a table
abbrev pub HasRoom : Table → ℕ → Type 0
HasRoom table size = (length table.symbols + size < 2 ^ 32) × (length table.strings + size < 2 ^ 32)

-- of so many bytes so many are left, and each of the others brought one name at most into a table
pub record Moves (old : Table) (size : ℕ) (new : Table) (left : ℕ) : Type 0 where
  pub goes_on : GoesOn old new
  pub symbols : length new.symbols + left ≤ length old.symbols + size
  pub strings : length new.strings + left ≤ length old.strings + size
  pub spelled : AreSymbols old → AreSymbols new

-- the symbol or string of a shape stands in a table, and its number fits
abbrev pub is_known : Table → Shape → Bool
is_known table (Sym s) = nat_lt s (length table.symbols)
is_known table (Str s) = nat_lt s (length table.strings)
is_known table (Num z) = is_in_range z
is_known table _ = true
