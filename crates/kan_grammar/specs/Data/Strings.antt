-- The strings of a text: how far one goes, and the text that it means.
use Rattle.std.specs.Prelude.{ℕ, suc, Bool, true, false, ◌||◌, ◌==◌, nat_lt, List, [], ◌∷◌, Option}
use Rattle.std.specs.Prelude.{None, Some, option_map, if◌then◌else◌}
use Rattle.kan_grammar.specs.Data.Words.{is_one_of}
use lib.Chars.{codes}

-- a control character of ASCII
abbrev pub is_control : ℕ → Bool
is_control b = nat_lt b 32 || b == 127

-- what may stand behind a backslash: a quotation mark, a backslash, and the letters of a line feed,
-- a tab and a carriage return
abbrev pub is_escape : ℕ → Bool
is_escape b = is_one_of (codes "\"\\ntr") b

-- the character that one of these stands for
abbrev pub escape_meaning : ℕ → ℕ
escape_meaning b = if b == 110 then 10 else (if b == 116 then 9 else (if b == 114 then 13 else b))

-- what a byte is to a string: the mark that closes it, what no string may hold, or a part of it
pub data Role : Type 0 where
  closes : Role
  never : Role
  part : Role

-- the role of a byte, directly behind a backslash or not
abbrev pub role : Bool → ℕ → Role
role true b = if is_escape b then Role.part else Role.never
role false b = if b == 34 then Role.closes else (if is_control b then Role.never else Role.part)

-- the next byte stands directly behind a backslash: one that does so itself begins nothing
abbrev pub begins_escape : Bool → ℕ → Bool
begins_escape true b = false
begins_escape false b = b == 92

-- a string's length by the role of a byte, where it goes on for so many bytes after it
abbrev pub length_by : Role → Option ℕ → Option ℕ
length_by Role.closes rest = Some 0
length_by Role.never rest = None
length_by Role.part rest = option_map (λ n. suc n) rest

-- how many bytes come before the mark that closes a string, directly behind a backslash or not;
-- none where it isn't closed or holds what it may not
abbrev pub string_length : Bool → List ℕ → Option ℕ
string_length escape [] = None
string_length escape (b ∷ bs) =
    length_by (role escape b) (string_length (begins_escape escape b) bs)

-- a byte's part in what a string means, before the rest: a backslash that isn't behind another has
-- none
abbrev pub byte_meaning : Bool → ℕ → List ℕ → List ℕ
byte_meaning true b rest = escape_meaning b ∷ rest
byte_meaning false b rest = if b == 92 then rest else b ∷ rest

-- the text that the bytes of a string mean, directly behind a backslash or not
abbrev pub string_meaning : Bool → List ℕ → List ℕ
string_meaning escape [] = []
string_meaning escape (b ∷ bs) = byte_meaning escape b (string_meaning (begins_escape escape b) bs)
