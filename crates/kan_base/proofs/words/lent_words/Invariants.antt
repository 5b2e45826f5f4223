use Rattle.std.proofs.Common.{◌≡◌, map, take}
use Rattle.std.specs.Prelude.{string_bytes}
use Rattle.kan_base.proofs.words.lent_words.Given as goal

-- so many words are lent
abbrev pub invariant-loop-word : goal.invariant-loop-word
invariant-loop-word l = map (λ word. word.now) l.lent.items ≡ map string_bytes (take l.word-index l.words)
