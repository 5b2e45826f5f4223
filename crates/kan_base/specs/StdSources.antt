-- Sources over std as clauses see them.
use Rattle.std.specs.Prelude.{ℕ, List, Option, None}
use Rattle.kan_base.specs.Spots.{Spot}
use Rattle.kan_base.specs.declared.std_source.OpenStream.{OpenStream}
use Rattle.kan_base.specs.declared.std_source.OpenStream.TheVariants.{Nothing, Input, File}

-- what kind of place is open: none yet, standard input, or a file
pub data OpenKind : Type 0 where
  nothing : OpenKind
  input : OpenKind
  file : OpenKind

-- the kind of a place
abbrev pub kind_of : Spot → OpenKind
kind_of Spot.input = OpenKind.input
kind_of (Spot.file name) = OpenKind.file

-- what kind of place is open, what is left of it, where its reader tells it, and how many calls
-- have failed
pub record StdSourceState : Type 0 where
  pub kind : OpenKind
  pub left : Option (List ℕ)
  pub faults : ℕ

module _ {I F : Type 0} where
  -- the kind of what is open
  abbrev pub open_kind : OpenStream I F → OpenKind
  open_kind Nothing = OpenKind.nothing
  open_kind (Input reader) = OpenKind.input
  open_kind (File reader) = OpenKind.file

  -- what is left of what is open, where its reader tells it
  abbrev pub left_of : (I → Option (List ℕ)) → (F → Option (List ℕ)) → OpenStream I F →
      Option (List ℕ)
  left_of input_left file_left Nothing = None
  left_of input_left file_left (Input reader) = input_left reader
  left_of input_left file_left (File reader) = file_left reader
