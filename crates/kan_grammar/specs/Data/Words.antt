-- What tokens there are, and which of them a word is.
use Rattle.std.specs.Prelude.{ℕ, ◌^◌, ℤ, pos, negsuc, Bool, true, false, ◌&&◌, ◌||◌, if◌then◌else◌}
use Rattle.std.specs.Prelude.{nat_lt, ◌==◌, List, [], ◌∷◌}
use Rattle.std.specs.Char.{is_ascii_digit, is_ascii_alphanumeric}
use Rattle.std.specs.Str.Parse.{without_leading_sign, signed_digits_value}
use lib.Chars.{codes}

-- what one word says by itself
pub data Atom : Type 0 where
  -- its bytes
  symbol : List ℕ → Atom
  -- the bytes of the text that it means
  string : List ℕ → Atom
  number : ℤ → Atom
  truth : Bool → Atom
  -- a number that no datum can hold
  out_of_range : Atom
  -- a name of an answer's variable
  reserved : Atom

-- the two shapes of parentheses
pub data Shape : Type 0 where
  round : Shape
  square : Shape

-- what may stand before a datum
pub data Prefix : Type 0 where
  quote : Prefix
  quasiquote : Prefix
  unquote : Prefix

-- a token
pub data Token : Type 0 where
  opening : Shape → Token
  closing : Shape → Token
  prefix : Prefix → Token
  dot : Token
  atom : Atom → Token
  -- a quotation mark that begins no string
  bad_string : Token
  -- what else no text may hold
  bad : Token

-- a byte is one of these
abbrev pub is_one_of : List ℕ → ℕ → Bool
is_one_of [] b = false
is_one_of (c ∷ cs) b = b == c || is_one_of cs b

-- the bytes of words: ASCII letters and digits, some signs, and each byte of a character above
-- U+007F
abbrev pub is_word_byte : ℕ → Bool
is_word_byte b =
    is_ascii_alphanumeric b || (nat_lt 127 b || is_one_of (codes "!$%&*/:<=>?^_~+-.@") b)

-- the first byte is a digit
abbrev pub begins_with_digit : List ℕ → Bool
begins_with_digit [] = false
begins_with_digit (b ∷ bs) = is_ascii_digit b

-- no byte is anything else
abbrev pub all_digits : List ℕ → Bool
all_digits [] = true
all_digits (b ∷ bs) = is_ascii_digit b && all_digits bs

-- the bytes after a point, or else all
abbrev pub without_leading_point : List ℕ → List ℕ
without_leading_point [] = []
without_leading_point (b ∷ bs) = if b == 46 then bs else b ∷ bs

-- after an optional sign and then an optional point comes a digit
abbrev pub looks_like_number : List ℕ → Bool
looks_like_number w = begins_with_digit (without_leading_point (without_leading_sign w))

-- the whole numbers that a datum holds are those of 128 bits
abbrev pub is_in_range : ℤ → Bool
is_in_range (pos n) = nat_lt n (2 ^ 127)
is_in_range (negsuc n) = nat_lt n (2 ^ 127)

-- the atom of a number
abbrev pub number_atom : ℤ → Atom
number_atom z = if is_in_range z then number z else out_of_range

-- the token of a word that looks like a number: it is one where digits alone follow the sign
abbrev pub number_token : List ℕ → Token
number_token w =
    if all_digits (without_leading_sign w) then atom (number_atom (signed_digits_value 10 w))
    else bad

-- an underscore and one or more digits
abbrev pub is_reserved : List ℕ → Bool
is_reserved [] = false
is_reserved (b ∷ bs) = b == 95 && (begins_with_digit bs && all_digits bs)

-- the word of one point
abbrev pub is_dot : List ℕ → Bool
is_dot (b ∷ []) = b == 46
is_dot _ = false

-- the token of a word
unfoldable pub word_token : List ℕ → Token
word_token w =
    if is_dot w then dot
    else (if looks_like_number w then number_token w
    else (if is_reserved w then atom reserved else atom (symbol w)))
