-- Faults that more than one question might name, by the order of the questions.
use Rattle.std.specs.Prelude.{◌≡◌, refl}
use Rattle.kan_refusals.specs.declared.refusals.Refusal.{Refusal}
use Rattle.kan_grammar.specs.Data.Faults.{refused, fault}
use Rattle.kan_grammar.proofs.Data.Examples.Readings.{read}
use lib.Chars.{codes}

-- the other shape is asked before the dot
stray_before_dot : read (codes "(a . ]") ≡ refused (fault 5 Refusal.StrayClose)
unfolding read
stray_before_dot = refl

-- a close of the right shape after a dot
close_after_dot : read (codes "(a . )") ≡ refused (fault 3 Refusal.BadDot)
unfolding read
close_after_dot = refl

-- a prefix without its datum is asked before the shape
prefix_before_shape : read (codes "(']") ≡ refused (fault 1 Refusal.BadToken)
unfolding read
prefix_before_shape = refl

-- a close after a prefix where no list is unclosed
prefix_at_the_top : read (codes "')") ≡ refused (fault 0 Refusal.BadToken)
unfolding read
prefix_at_the_top = refl

-- the last of two prefixes
last_prefix : read (codes "'`)") ≡ refused (fault 1 Refusal.BadToken)
unfolding read
last_prefix = refl

-- a prefix after a dot
prefix_after_dot : read (codes "(a . ')") ≡ refused (fault 5 Refusal.BadToken)
unfolding read
prefix_after_dot = refl

-- a dot outside of lists
dot_at_the_top : read (codes ".") ≡ refused (fault 0 Refusal.BadDot)
unfolding read
dot_at_the_top = refl

-- a dot after a prefix
dot_after_prefix : read (codes "(a ' . b)") ≡ refused (fault 5 Refusal.BadDot)
unfolding read
dot_after_prefix = refl

-- a dot after a dot
two_dots : read (codes "(a . . b)") ≡ refused (fault 5 Refusal.BadDot)
unfolding read
two_dots = refl

-- a dot after the datum after a dot
dot_after_the_last : read (codes "(a . b . c)") ≡ refused (fault 7 Refusal.BadDot)
unfolding read
dot_after_the_last = refl

-- a second datum after a dot
two_after_dot : read (codes "(a . b c)") ≡ refused (fault 3 Refusal.BadDot)
unfolding read
two_after_dot = refl

-- a list as second datum after a dot
list_after_the_last : read (codes "(a . b (c))") ≡ refused (fault 3 Refusal.BadDot)
unfolding read
list_after_the_last = refl

-- the dot is asked before the name
reserved_after_the_last : read (codes "(a . b _0)") ≡ refused (fault 3 Refusal.BadDot)
unfolding read
reserved_after_the_last = refl

-- a bad token is asked before the dot
bad_after_the_last : read (codes "(a . b #)") ≡ refused (fault 7 Refusal.BadToken)
unfolding read
bad_after_the_last = refl

-- the other shape after the datum after a dot
shape_after_the_last : read (codes "(a . b]") ≡ refused (fault 6 Refusal.StrayClose)
unfolding read
shape_after_the_last = refl

-- a close of the other shape
other_shape : read (codes "[a)") ≡ refused (fault 2 Refusal.StrayClose)
unfolding read
other_shape = refl

-- a prefix without its datum at the end
prefix_at_the_end : read (codes "(a '") ≡ refused (fault 3 Refusal.BadToken)
unfolding read
prefix_at_the_end = refl

-- a list opened after a prefix
list_in_a_prefix : read (codes "'(a") ≡ refused (fault 1 Refusal.UnclosedList)
unfolding read
list_in_a_prefix = refl

-- a prefix after an opening, at the end
prefix_in_a_list : read (codes "('(`") ≡ refused (fault 3 Refusal.BadToken)
unfolding read
prefix_in_a_list = refl

-- a dot at the end
dot_at_the_end : read (codes "(a .") ≡ refused (fault 0 Refusal.UnclosedList)
unfolding read
dot_at_the_end = refl

-- a datum after a dot at the end
last_at_the_end : read (codes "[a . b") ≡ refused (fault 0 Refusal.UnclosedList)
unfolding read
last_at_the_end = refl

-- the first fault counts
first_of_two : read (codes "(a #x . )") ≡ refused (fault 3 Refusal.BadToken)
unfolding read
first_of_two = refl
