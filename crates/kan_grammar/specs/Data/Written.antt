-- Data as they are written: trees with the offsets of their tokens, the tokens that spell them, and
-- which of them are allowed.
use Rattle.std.specs.Prelude.{ℕ, suc, ◌+◌, Bool, true, false, ◌&&◌, nat_lt, nat_le, List, [], ◌∷◌}
use Rattle.kan_grammar.specs.Data.Tokens.{Placed, placed}
use Rattle.kan_grammar.specs.Data.Words.{Atom, symbol, string, number, truth, out_of_range}
use Rattle.kan_grammar.specs.Data.Words.{reserved, Shape, Prefix, opening, closing, prefix, dot}
use Rattle.kan_grammar.specs.Data.Words.{atom}

-- a datum begins at its offset; what stands in a list goes on to its close, the datum after a dot
-- being the last
mutual
  pub data Written : Type 0 where
    single : ℕ → Atom → Written
    list : ℕ → Shape → Within → Written
    prefixed : ℕ → Prefix → Written → Written

  pub data Within : Type 0 where
    close : ℕ → Within
    dotted : ℕ → Written → ℕ → Within
    element : Written → Within → Within

-- the tokens of a datum, and those of what stands in a list of a shape, before other tokens
abbrev mutual
  pub spell : Written → List Placed → List Placed
  spell (single at a) rest = placed at (atom a) ∷ rest
  spell (list at s inner) rest = placed at (opening s) ∷ spell_within s inner rest
  spell (prefixed at p d) rest = placed at (prefix p) ∷ spell d rest

  pub spell_within : Shape → Within → List Placed → List Placed
  spell_within s (close at) rest = placed at (closing s) ∷ rest
  spell_within s (dotted at d end) rest = placed at dot ∷ spell d (placed end (closing s) ∷ rest)
  spell_within s (element d inner) rest = spell d (spell_within s inner rest)

-- the tokens of data in a row, before other tokens
abbrev pub spell_all : List Written → List Placed → List Placed
spell_all [] rest = rest
spell_all (d ∷ ds) rest = spell d (spell_all ds rest)

-- how deep a datum may stand
abbrev pub deepest : ℕ
deepest = 2048

-- an atom that a datum may be
abbrev pub is_allowed_atom : Atom → Bool
is_allowed_atom (symbol s) = true
is_allowed_atom (string s) = true
is_allowed_atom (number n) = true
is_allowed_atom (truth b) = true
is_allowed_atom out_of_range = false
is_allowed_atom reserved = false

-- a datum at a depth is allowed where none in it stands deeper than the limit; and what stands in a
-- list at a depth, after so many elements
abbrev mutual
  pub is_allowed : ℕ → ℕ → Written → Bool
  is_allowed limit depth (single at a) = nat_le depth limit && is_allowed_atom a
  is_allowed limit depth (list at s inner) =
      nat_le depth limit && are_allowed_within limit depth 0 inner
  is_allowed limit depth (prefixed at p d) = nat_le depth limit && is_allowed limit (depth + 2) d

  pub are_allowed_within : ℕ → ℕ → ℕ → Within → Bool
  are_allowed_within limit depth count (close at) = true
  are_allowed_within limit depth count (dotted at d end) =
      nat_lt 0 count && is_allowed limit (depth + count) d
  are_allowed_within limit depth count (element d inner) =
      is_allowed limit (depth + suc count) d && are_allowed_within limit depth (suc count) inner

-- the data of a text stand at depth 0
abbrev pub are_allowed : ℕ → List Written → Bool
are_allowed limit [] = true
are_allowed limit (d ∷ ds) = is_allowed limit 0 d && are_allowed limit ds
