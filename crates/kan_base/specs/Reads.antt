-- What a read takes of what is left of a place, where that is told.
use Rattle.std.specs.Prelude.{◌≡◌, ℕ, ◌≤◌, List, length, take, Option}
use Rattle.std.specs.Io.KnownBytes.{Consumes, IsAtEnd}

-- the first n bytes of the buffer are the first n that were left, and are taken; there are none
-- only where nothing was left
pub record Reads (old new : Option (List ℕ)) (n : ℕ) (buffer : List ℕ) : Type 0 where
  pub within : n ≤ length buffer
  pub taken : Consumes old new (take n buffer)
  pub none_at_end : n ≡ 0 → IsAtEnd old
