-- What is printed and what the characters that are left are printed as is the text in its marks.
use Rattle.std.proofs.Common.{◌≡◌, ◌∷◌, ◌++◌, IsUtf8, string_bytes}
use Rattle.std.specs.List.{flat_map}
use Rattle.std.specs.Str.Iter.{chars_rest}
use Rattle.kan_model.specs.Answers.Text.{string_byte_text}
use Rattle.sexpr.proofs.strings.print_string.Given as goal

abbrev pub invariant-loop-character : goal.invariant-loop-character
invariant-loop-character l = IsUtf8 (chars_rest l.character-iterator) × (string_bytes l.text ++ flat_map string_byte_text (chars_rest l.character-iterator) ≡ string_bytes l.fn.text ++ (34 ∷ flat_map string_byte_text l.fn.string))
