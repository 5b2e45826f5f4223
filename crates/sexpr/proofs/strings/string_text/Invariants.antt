-- What is put and what the characters that are left mean is the text.
use Rattle.std.proofs.Common.{◌≡◌, ◌++◌, false, IsUtf8, string_bytes}
use Rattle.std.specs.Str.Iter.{chars_rest}
use Rattle.kan_grammar.specs.Data.Strings.{string_meaning}
use Rattle.sexpr.proofs.strings.string_text.Given as goal

abbrev pub invariant-loop-character : goal.invariant-loop-character
invariant-loop-character l = IsUtf8 (chars_rest l.character-iterator) × (string_bytes l.text ++ string_meaning l.escape (chars_rest l.character-iterator) ≡ string_meaning false l.fn.spelling)
