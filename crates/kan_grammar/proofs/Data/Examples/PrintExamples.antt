-- Texts of data.
use Rattle.std.specs.Prelude.{◌≡◌, [], ◌∷◌, refl}
use Rattle.kan_grammar.proofs.Data.Examples.Readings.{reprinted}
use lib.Chars.{codes}

quoted_pair : reprinted (codes "'(a . b)") ≡ codes "(quote (a . b))" ∷ []
unfolding reprinted
quoted_pair = refl

list_after_a_dot : reprinted (codes "(a . (b))") ≡ codes "(a b)" ∷ []
unfolding reprinted
list_after_a_dot = refl

prefix_after_a_dot : reprinted (codes "(a . 'b)") ≡ codes "(a quote b)" ∷ []
unfolding reprinted
prefix_after_a_dot = refl

shapes_and_numbers : reprinted (codes "[#t  (+05 . -0)] ; data\n`(,x -12 ())") ≡ codes "(#t (5 . 0))" ∷ codes "(quasiquote ((unquote x) -12 ()))" ∷ []
unfolding reprinted
shapes_and_numbers = refl
