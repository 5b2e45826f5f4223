-- The bytes of strings as they are printed.
use Rattle.std.specs.Prelude.{ℕ, Bool, true, ◌==◌, if◌then◌else◌, List, [], ◌∷◌}
use Rattle.kan_grammar.specs.Data.Strings.{escape_meaning}

-- the byte that is printed at the front
abbrev pub front_byte : List ℕ → ℕ
front_byte [] = 0
front_byte (b ∷ []) = b
front_byte (b ∷ c ∷ cs) = if b == 92 then escape_meaning c else b

-- what stands behind it
abbrev pub behind_byte : List ℕ → List ℕ
behind_byte [] = []
behind_byte (b ∷ []) = []
behind_byte (b ∷ c ∷ cs) = if b == 92 then cs else c ∷ cs

-- nothing is left, or a mark is next
abbrev pub at_mark : List ℕ → Bool
at_mark [] = true
at_mark (b ∷ bs) = b == 34
