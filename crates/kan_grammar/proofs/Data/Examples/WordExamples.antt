-- Words that look alike, read as texts, and a datum as it is written.
use Rattle.std.specs.Prelude.{◌≡◌, true, [], ◌∷◌, refl}
use Rattle.kan_refusals.specs.declared.refusals.Refusal.{Refusal}
use Rattle.kan_grammar.specs.Data.Words.{symbol, round, square}
use Rattle.kan_grammar.specs.Data.Written.{single, list, element, dotted, close}
use Rattle.kan_grammar.specs.Data.Faults.{data_are, refused, fault}
use Rattle.kan_grammar.proofs.Data.Examples.Readings.{read, is_read}
use lib.Chars.{codes}

-- a bad word
one_and_plus : read (codes "1+") ≡ refused (fault 0 Refusal.BadToken)
unfolding read
one_and_plus = refl

-- a bad word
point_five : read (codes ".5") ≡ refused (fault 0 Refusal.BadToken)
unfolding read
point_five = refl

-- a bad word
true_twice : read (codes "#tt") ≡ refused (fault 0 Refusal.BadToken)
unfolding read
true_twice = refl

-- a comma before an at sign
comma_at : read (codes ",@x") ≡ refused (fault 0 Refusal.BadToken)
unfolding read
comma_at = refl

-- an underscore and a digit
underscore_zero : read (codes "_0") ≡ refused (fault 0 Refusal.ReservedName)
unfolding read
underscore_zero = refl

-- an atom
plus_five : is_read (read (codes "+5")) ≡ true
unfolding read
plus_five = refl

-- an atom
minus_nought : is_read (read (codes "-0")) ≡ true
unfolding read
minus_nought = refl

-- an atom
dots : is_read (read (codes "...")) ≡ true
unfolding read
dots = refl

-- an atom
arrow : is_read (read (codes "->x")) ≡ true
unfolding read
arrow = refl

-- an atom
underscore : is_read (read (codes "_")) ≡ true
unfolding read
underscore = refl

-- comments and separators
ends_in_comments : is_read (read (codes "; note\r\n(run* q (== q #t)) ; last")) ≡ true
unfolding read
ends_in_comments = refl

-- a list with a dot and a list after it, as it is written
dotted_list : read (codes "(a . [b])") ≡ data_are (list 0 round (element (single 1 (symbol (codes "a"))) (dotted 3 (list 5 square (element (single 6 (symbol (codes "b"))) (close 7))) 8)) ∷ [])
unfolding read
dotted_list = refl
