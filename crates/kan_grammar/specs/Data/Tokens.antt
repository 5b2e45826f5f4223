-- The tokens of a text: its bytes cut by longest match, each token with its offset.
use Rattle.std.specs.Prelude.{ℕ, zero, suc, true, false, not, if◌then◌else◌, ◌==◌, List, [], ◌∷◌}
use Rattle.std.specs.Prelude.{Option, None, Some, take, take_while}
use Rattle.std.specs.List.{prefix_len}
use Rattle.kan_grammar.specs.Data.Words.{round, square, quote, quasiquote, unquote, Token, opening}
use Rattle.kan_grammar.specs.Data.Words.{closing, prefix, atom, string, truth, bad_string, bad}
use Rattle.kan_grammar.specs.Data.Words.{is_one_of, is_word_byte, word_token}
use Rattle.kan_grammar.specs.Data.Strings.{string_length, string_meaning}
use lib.Chars.{codes}

-- a token and its offset
pub data Placed : Type 0 where
  placed : ℕ → Token → Placed

-- how many bytes come before the next line feed, or before the end
abbrev pub comment_length : List ℕ → ℕ
comment_length bs = prefix_len (λ b. not (b == 10)) bs

-- the token of a number sign and the word after it
abbrev pub hash_token : List ℕ → Token
hash_token (b ∷ []) =
    if b == 116 then atom (truth true) else (if b == 102 then atom (truth false) else bad)
hash_token _ = bad

-- what a byte can begin: nothing, a comment, a token of its own, or one that later bytes decide
pub data Start : Type 0 where
  separator : Start
  comment : Start
  whole : Token → Start
  comma : Start
  hash : Start
  quotation : Start
  in_word : Start

-- what each byte begins
abbrev pub start : ℕ → Start
start b = if is_one_of (codes " \t\n\r") b then separator else (if b == 59 then comment
    else (if b == 40 then whole (opening round) else (if b == 91 then whole (opening square)
    else (if b == 41 then whole (closing round) else (if b == 93 then whole (closing square)
    else (if b == 39 then whole (prefix quote) else (if b == 96 then whole (prefix quasiquote)
    else (if b == 44 then comma else (if b == 35 then hash
    else (if b == 34 then quotation
    else (if is_word_byte b then in_word else whole bad)))))))))))

-- a piece of a text: no token or one, and how many bytes it has after its first
pub data Piece : Type 0 where
  blank : ℕ → Piece
  spelled : Token → ℕ → Piece

-- the piece of a comma before these bytes: with an at sign it is one bad token
abbrev pub comma_piece : List ℕ → Piece
comma_piece [] = spelled (prefix unquote) 0
comma_piece (b ∷ bs) = if b == 64 then spelled bad 1 else spelled (prefix unquote) 0

-- the piece of a quotation mark, where a string goes on for so many bytes behind it: one that
-- begins no string is a token by itself
abbrev pub string_piece : Option ℕ → List ℕ → Piece
string_piece None bs = spelled bad_string 0
string_piece (Some n) bs = spelled (atom (string (string_meaning false (take n bs)))) (suc n)

-- the piece of a byte that begins this, before the bytes that follow
abbrev pub piece_of : Start → ℕ → List ℕ → Piece
piece_of separator b bs = blank 0
piece_of comment b bs = blank (comment_length bs)
piece_of (whole t) b bs = spelled t 0
piece_of comma b bs = comma_piece bs
piece_of hash b bs = spelled (hash_token (take_while is_word_byte bs)) (prefix_len is_word_byte bs)
piece_of quotation b bs = string_piece (string_length false bs) bs
piece_of in_word b bs =
    spelled (word_token (b ∷ take_while is_word_byte bs)) (prefix_len is_word_byte bs)

-- the piece that a byte begins, before the bytes that follow
unfoldable pub piece : ℕ → List ℕ → Piece
piece b bs = piece_of (start b) b bs

-- how many bytes of a piece come after its first
abbrev pub more : Piece → ℕ
more (blank n) = n
more (spelled t n) = n

-- a piece at an offset, before the tokens that follow
abbrev pub placed_before : ℕ → Piece → List Placed → List Placed
placed_before at (blank n) rest = rest
placed_before at (spelled t n) rest = placed at t ∷ rest

-- the tokens from an offset on, where some bytes still belong to the piece before
unfoldable pub tokens_from : ℕ → ℕ → List ℕ → List Placed
tokens_from at skip [] = []
tokens_from at (suc skip) (b ∷ bs) = tokens_from (suc at) skip bs
tokens_from at zero (b ∷ bs) =
    placed_before at (piece b bs) (tokens_from (suc at) (more (piece b bs)) bs)

-- the tokens of a text
unfoldable pub tokens : List ℕ → List Placed
tokens bs = tokens_from 0 0 bs
