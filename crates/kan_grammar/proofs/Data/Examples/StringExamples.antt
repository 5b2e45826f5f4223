-- Strings: their tokens, what no string may hold, and their printing.
use Rattle.std.specs.Prelude.{◌≡◌, ℕ, List, [], ◌∷◌, map, refl}
use Rattle.kan_refusals.specs.declared.refusals.Refusal.{Refusal}
use Rattle.kan_grammar.specs.Data.Tokens.{placed}
use Rattle.kan_grammar.specs.Data.Words.{symbol, string, opening, closing, round, prefix, quote, atom, bad, bad_string}
use Rattle.kan_grammar.specs.Data.Faults.{Reading, refused, fault}
use Rattle.kan_grammar.specs.Data.Written.{Written}
use Rattle.kan_grammar.proofs.Data.Examples.Readings.{cut, read, reprinted}
use lib.Chars.{codes}

empty_string : cut (codes "\"\"") ≡ placed 0 (atom (string [])) ∷ []
unfolding cut
empty_string = refl

-- neither a comment nor a separator nor a parenthesis stands inside
inside_a_string : cut (codes "(\"a ;b) c\" d)") ≡ placed 0 (opening round) ∷ placed 1 (atom (string (codes "a ;b) c"))) ∷ placed 11 (atom (symbol (codes "d"))) ∷ placed 12 (closing round) ∷ []
unfolding cut
inside_a_string = refl

-- a string ends at its mark, also before a word
next_to_words : cut (codes "a\"b\"c'\"\"") ≡ placed 0 (atom (symbol (codes "a"))) ∷ placed 1 (atom (string (codes "b"))) ∷ placed 4 (atom (symbol (codes "c"))) ∷ placed 5 (prefix quote) ∷ placed 6 (atom (string [])) ∷ []
unfolding cut
next_to_words = refl

-- the five spellings
five_spellings : cut (codes "\"\\\"\\\\\\n\\t\\r\"") ≡ placed 0 (atom (string (34 ∷ 92 ∷ 10 ∷ 9 ∷ 13 ∷ []))) ∷ []
unfolding cut
five_spellings = refl

-- a backslash that is spelled leaves the mark that follows it
spelled_backslash : cut (codes "\"\\\\\"a") ≡ placed 0 (atom (string (92 ∷ []))) ∷ placed 4 (atom (symbol (codes "a"))) ∷ []
unfolding cut
spelled_backslash = refl

-- characters above U+007F
letters_of_all_scripts : cut (34 ∷ 0xC3 ∷ 0xA9 ∷ 34 ∷ []) ≡ placed 0 (atom (string (0xC3 ∷ 0xA9 ∷ []))) ∷ []
unfolding cut
letters_of_all_scripts = refl

-- a mark that begins no string is a token of one byte
other_escape : cut (codes "\"\\q\"") ≡ placed 0 bad_string ∷ placed 1 bad ∷ placed 2 (atom (symbol (codes "q"))) ∷ placed 3 bad_string ∷ []
unfolding cut
other_escape = refl

-- a comment ends a string as little as it begins in one
marks_in_a_comment : cut (codes "; \"a\n\"b\"") ≡ placed 5 (atom (string (codes "b"))) ∷ []
unfolding cut
marks_in_a_comment = refl

-- a control character inside: at each of them the mark is refused
abbrev control_bytes : List ℕ
control_bytes = 0 ∷ 1 ∷ 2 ∷ 3 ∷ 4 ∷ 5 ∷ 6 ∷ 7 ∷ 8 ∷ 9 ∷ 10 ∷ 11 ∷ 12 ∷ 13 ∷ 14 ∷ 15 ∷ 16 ∷ 17 ∷ 18 ∷ 19 ∷ 20 ∷ 21 ∷ 22 ∷ 23 ∷ 24 ∷ 25 ∷ 26 ∷ 27 ∷ 28 ∷ 29 ∷ 30 ∷ 31 ∷ 127 ∷ []

abbrev around : ℕ → Reading Written
around b = read (34 ∷ b ∷ 34 ∷ [])

abbrev bad_at_start : Reading Written
bad_at_start = refused (fault 0 Refusal.BadString)

control_characters : map around control_bytes ≡ map (λ b. bad_at_start) control_bytes
unfolding read
control_characters = refl

-- a string that isn't closed: at the end of the text, before a line feed, and behind a backslash
not_closed : read (codes "(run* q (== q \"a))") ≡ refused (fault 14 Refusal.BadString)
unfolding read
not_closed = refl

closed_on_the_next_line : read (codes "(a \"b\nc\")") ≡ refused (fault 3 Refusal.BadString)
unfolding read
closed_on_the_next_line = refl

ends_behind_a_backslash : read (codes "\"a\\") ≡ refused (fault 0 Refusal.BadString)
unfolding read
ends_behind_a_backslash = refl

mark_behind_a_backslash : read (codes "\"a\\\"") ≡ refused (fault 0 Refusal.BadString)
unfolding read
mark_behind_a_backslash = refl

-- it is asked before a second datum after a dot, and a bad token that stands before it comes first
before_the_dot : read (codes "(a . b \"c") ≡ refused (fault 7 Refusal.BadString)
unfolding read
before_the_dot = refl

behind_a_bad_token : read (codes "| \"c") ≡ refused (fault 0 Refusal.BadToken)
unfolding read
behind_a_bad_token = refl

-- a string after the datum after a dot
second_after_a_dot : read (codes "(a . b \"c\")") ≡ refused (fault 3 Refusal.BadDot)
unfolding read
second_after_a_dot = refl

-- strings are printed as they are spelled
printed_as_spelled : reprinted (codes "(\"a;\\\"\\\\\\n\\t\\r\" . \"b\")") ≡ codes "(\"a;\\\"\\\\\\n\\t\\r\" . \"b\")" ∷ []
unfolding reprinted
printed_as_spelled = refl
