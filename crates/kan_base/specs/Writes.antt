-- What a write puts of a piece.
use Rattle.std.specs.Prelude.{◌≡◌, ℕ, ◌<◌, ◌≤◌, List, ◌++◌, length, take, Option}
use Rattle.std.specs.Io.KnownBytes.{Appends}

-- what was put grows by the first n bytes of the piece, by at least one where the piece isn't empty
pub record Writes (old new : Option (List ℕ)) (n : ℕ) (piece : List ℕ) : Type 0 where
  pub within : n ≤ length piece
  pub some : 0 < length piece → 1 ≤ n
  pub put : Appends old new (take n piece)

-- what was put grows by a front of the piece
pub record PutsFront (old new : Option (List ℕ)) (piece : List ℕ) : Type 0 where
  pub front : List ℕ
  pub rest : List ℕ
  pub parts : piece ≡ front ++ rest
  pub put : Appends old new front
