-- Texts that stand as deep as a datum may, and one deeper.
use Rattle.std.specs.Prelude.{◌≡◌, true, [], ◌∷◌, ◌++◌, replicate, refl}
use Rattle.kan_refusals.specs.declared.refusals.Refusal.{Refusal}
use Rattle.kan_grammar.specs.Data.Faults.{refused, fault}
use Rattle.kan_grammar.proofs.Data.Examples.Readings.{read_ascii, is_read}

openings_deep : read_ascii (replicate 2049 40) ≡ refused (fault 2048 Refusal.UnclosedList)
unfolding read_ascii
openings_deep = refl

openings_too_deep : read_ascii (replicate 2050 40) ≡ refused (fault 2049 Refusal.TooDeep)
unfolding read_ascii
openings_too_deep = refl

-- prefixes at depths 0 to 2,048 pass; what comes after the last is too deep, or a close that the prefix is refused for
atom_in_prefixes : is_read (read_ascii (replicate 1024 39 ++ 97 ∷ [])) ≡ true
unfolding read_ascii
atom_in_prefixes = refl

atom_too_deep : read_ascii (replicate 1025 39 ++ 97 ∷ []) ≡ refused (fault 1025 Refusal.TooDeep)
unfolding read_ascii
atom_too_deep = refl

close_too_deep : read_ascii (replicate 1025 39 ++ 41 ∷ []) ≡ refused (fault 1024 Refusal.BadToken)
unfolding read_ascii
close_too_deep = refl

prefix_too_deep : read_ascii (replicate 1026 39) ≡ refused (fault 1025 Refusal.TooDeep)
unfolding read_ascii
prefix_too_deep = refl
