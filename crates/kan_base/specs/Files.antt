-- Named files as the code keeps them.
use Rattle.std.specs.Prelude.{◌≡◌, ◌<◌, ℕ, zero, suc, List, [], ◌∷◌, length, Some, String, Vec}
use Rattle.std.specs.Prelude.{string_bytes}
use Rattle.std.specs.declared.alloc.Global.{Global}
use Rattle.kan_base.specs.InMemory.{NamedFile, file_of}

-- a name with the bytes of its file
abbrev pub named_file : String Global × Vec ℕ Global → NamedFile
named_file file = record { name = string_bytes file.0; bytes = file.1.items }

-- every name with the bytes of its file
abbrev pub all_named : List (String Global × Vec ℕ Global) → List NamedFile
all_named [] = []
all_named (file ∷ files) = named_file file ∷ all_named files

-- the bytes of the file at a place; none where there is no file
abbrev pub bytes_at : List (String Global × Vec ℕ Global) → ℕ → List ℕ
bytes_at [] at = []
bytes_at (file ∷ files) zero = file.1.items
bytes_at (file ∷ files) (suc at) = bytes_at files at

-- the name finds the file at a place
pub record FindsAt (name : List ℕ) (files : List (String Global × Vec ℕ Global))
    (at : ℕ) : Type 0 where
  pub within : at < length files
  pub found : file_of name (all_named files) ≡ Some (bytes_at files at)
