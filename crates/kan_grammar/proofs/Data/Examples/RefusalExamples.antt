-- The refusals, each by a small text.
use Rattle.std.specs.Prelude.{◌≡◌, [], ◌∷◌, refl}
use Rattle.std.specs.Str.Lossy.{utf8_valid_len}
use Rattle.kan_refusals.specs.declared.refusals.Refusal.{Refusal}
use Rattle.kan_grammar.specs.Data.Faults.{refused, fault}
use Rattle.kan_grammar.proofs.Data.Examples.Readings.{read}
use lib.Chars.{codes}

no_utf8 : read (0x28 ∷ 0xFF ∷ []) ≡ refused (fault 1 Refusal.NotUtf8)
unfolding read utf8_valid_len
no_utf8 = refl

-- the opening of a list that is never closed
open_list : read (codes "(run* q (== q 'a)") ≡ refused (fault 0 Refusal.UnclosedList)
unfolding read
open_list = refl

-- a close without an opening
close_alone : read (codes ")") ≡ refused (fault 0 Refusal.StrayClose)
unfolding read
close_alone = refl

-- a close after a whole form
close_at_the_end : read (codes "(run* q (foo x)) )") ≡ refused (fault 17 Refusal.StrayClose)
unfolding read
close_at_the_end = refl

-- a word that looks like a number
number_with_a_point : read (codes "(run* q (== q 1.5))") ≡ refused (fault 14 Refusal.BadToken)
unfolding read
number_with_a_point = refl

-- a dot before the first element
dot_first : read (codes "( . a)") ≡ refused (fault 2 Refusal.BadDot)
unfolding read
dot_first = refl

-- a number of more than 128 bits
great_number : read (codes "(run* q (== q 170141183460469231731687303715884105728))") ≡ refused (fault 14 Refusal.NumberRange)
unfolding read
great_number = refl

-- a reserved name
name_of_an_answer : read (codes "(run* q (== q '_0))") ≡ refused (fault 15 Refusal.ReservedName)
unfolding read
name_of_an_answer = refl
