-- Places as clauses see them.
use Rattle.std.specs.Prelude.{ℕ, List}
use Rattle.kan_base.specs.declared.sources.Place.{Place}
use Rattle.kan_base.specs.declared.sources.Place.TheVariants.{Input, File}

-- standard input, or the file of a name
pub data Spot : Type 0 where
  input : Spot
  file : List ℕ → Spot

-- the spot that a place is
abbrev pub spot : Place → Spot
spot Input = Spot.input
spot (File name) = Spot.file name.now
