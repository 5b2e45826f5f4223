-- Texts behind spaces.
use Rattle.std.specs.Prelude.{ℕ, zero, suc, Bool, true, false, List, [], ◌∷◌}

-- a text behind a space
abbrev pub behind_space : List ℕ → List ℕ
behind_space text = 32 ∷ text

-- a list has no item
abbrev pub is_nothing : {X : Type 0} → List X → Bool
is_nothing [] = true
is_nothing (x ∷ xs) = false

-- what stands in front of a text behind this many others
abbrev pub gap : ℕ → List ℕ
gap zero = []
gap (suc n) = 32 ∷ []
