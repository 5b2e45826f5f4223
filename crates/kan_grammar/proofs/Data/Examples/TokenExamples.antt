-- Tokens of small texts.
use Rattle.std.specs.Prelude.{◌≡◌, pos, negsuc, true, false, [], ◌∷◌, refl}
use Rattle.kan_grammar.specs.Data.Tokens.{placed}
use Rattle.kan_grammar.specs.Data.Words.{symbol, number, truth, reserved, out_of_range, opening, closing, prefix, dot, atom, bad, round, square, quote, quasiquote, unquote}
use Rattle.kan_grammar.proofs.Data.Examples.Readings.{cut}
use lib.Chars.{codes}

word_beginning_with_a_digit : cut (codes "1+") ≡ placed 0 bad ∷ []
unfolding cut
word_beginning_with_a_digit = refl

point_and_digit : cut (codes ".5") ≡ placed 0 bad ∷ []
unfolding cut
point_and_digit = refl

plus_and_digit : cut (codes "+5") ≡ placed 0 (atom (number (pos 5))) ∷ []
unfolding cut
plus_and_digit = refl

minus_zero : cut (codes "-0") ≡ placed 0 (atom (number (pos 0))) ∷ []
unfolding cut
minus_zero = refl

minus_and_zeros : cut (codes "-007 +") ≡ placed 0 (atom (number (negsuc 6))) ∷ placed 5 (atom (symbol (codes "+"))) ∷ []
unfolding cut
minus_and_zeros = refl

three_points : cut (codes "...") ≡ placed 0 (atom (symbol (codes "..."))) ∷ []
unfolding cut
three_points = refl

arrow : cut (codes "->x") ≡ placed 0 (atom (symbol (codes "->x"))) ∷ []
unfolding cut
arrow = refl

underscore : cut (codes "_ _0 _x") ≡ placed 0 (atom (symbol (codes "_"))) ∷ placed 2 (atom reserved) ∷ placed 5 (atom (symbol (codes "_x"))) ∷ []
unfolding cut
underscore = refl

long_truth_value : cut (codes "#tt") ≡ placed 0 bad ∷ []
unfolding cut
long_truth_value = refl

truth_values : cut (codes "#t#f(#x") ≡ placed 0 (atom (truth true)) ∷ placed 2 (atom (truth false)) ∷ placed 4 (opening round) ∷ placed 5 bad ∷ []
unfolding cut
truth_values = refl

comma_and_at : cut (codes ",@x , @x") ≡ placed 0 bad ∷ placed 2 (atom (symbol (codes "x"))) ∷ placed 4 (prefix unquote) ∷ placed 6 (atom (symbol (codes "@x"))) ∷ []
unfolding cut
comma_and_at = refl

shapes_and_prefixes : cut (codes "['`) (]. a.b") ≡ placed 0 (opening square) ∷ placed 1 (prefix quote) ∷ placed 2 (prefix quasiquote) ∷ placed 3 (closing round) ∷ placed 5 (opening round) ∷ placed 6 (closing square) ∷ placed 7 dot ∷ placed 9 (atom (symbol (codes "a.b"))) ∷ []
unfolding cut
shapes_and_prefixes = refl

comments : cut (codes "; \"note\"\r\na ; last") ≡ placed 10 (atom (symbol (codes "a"))) ∷ []
unfolding cut
comments = refl

signs_of_no_word : cut (codes "a|") ≡ placed 0 (atom (symbol (codes "a"))) ∷ placed 1 bad ∷ []
unfolding cut
signs_of_no_word = refl

greatest_number : cut (codes "170141183460469231731687303715884105727") ≡ placed 0 (atom (number (pos 170141183460469231731687303715884105727))) ∷ []
unfolding cut
greatest_number = refl

number_too_great : cut (codes "170141183460469231731687303715884105728") ≡ placed 0 (atom out_of_range) ∷ []
unfolding cut
number_too_great = refl

least_number : cut (codes "-170141183460469231731687303715884105728") ≡ placed 0 (atom (number (negsuc 170141183460469231731687303715884105727))) ∷ []
unfolding cut
least_number = refl

-- two bytes of one character above U+007F, between words of ASCII
letters_of_all_scripts : cut (97 ∷ 0xC3 ∷ 0xA9 ∷ 98 ∷ []) ≡ placed 0 (atom (symbol (97 ∷ 0xC3 ∷ 0xA9 ∷ 98 ∷ []))) ∷ []
unfolding cut
letters_of_all_scripts = refl

signs_of_no_token : cut (codes "{ | } \\") ≡ placed 0 bad ∷ placed 2 bad ∷ placed 4 bad ∷ placed 6 bad ∷ []
unfolding cut
signs_of_no_token = refl

control_characters : cut (0 ∷ 11 ∷ 12 ∷ 31 ∷ 127 ∷ []) ≡ placed 0 bad ∷ placed 1 bad ∷ placed 2 bad ∷ placed 3 bad ∷ placed 4 bad ∷ []
unfolding cut
control_characters = refl

signs_before_points : cut (codes "+.5 ..5 +-5 1/2 _0x") ≡ placed 0 bad ∷ placed 4 (atom (symbol (codes "..5"))) ∷ placed 8 (atom (symbol (codes "+-5"))) ∷ placed 12 bad ∷ placed 16 (atom (symbol (codes "_0x"))) ∷ []
unfolding cut
signs_before_points = refl
