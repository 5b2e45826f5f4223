-- The piece at the front of a text.
use Rattle.std.specs.Prelude.{ℕ, List, [], ◌∷◌}
use Rattle.kan_grammar.specs.Data.Tokens.{Piece, blank, piece}

-- the piece that the first byte begins; there is none where there is no byte
abbrev pub first_piece : List ℕ → Piece
first_piece [] = blank 0
first_piece (b ∷ bs) = piece b bs
