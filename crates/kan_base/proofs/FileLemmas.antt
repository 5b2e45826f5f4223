-- Where a name is found among files.
use Rattle.std.proofs.Common.{◌≡◌, ℕ, zero, suc, ◌<◌, ◌≤◌, true, List, [], ◌∷◌, length, get_or, drop, Some, refl, arith, string_bytes}
use Rattle.std.specs.Prelude.{String, Vec}
use Rattle.std.specs.declared.alloc.Global.{Global}
use Rattle.std.specs.Str.{bytes_eq}
use Rattle.kan_base.specs.InMemory.{file_of}
use Rattle.kan_base.specs.Files.{all_named, bytes_at}

-- a file of this name is found
pub file_of-hit : (name : List ℕ) (files : List (String Global × Vec ℕ Global)) (at : ℕ) (d : String Global × Vec ℕ Global) → at < length files
    → bytes_eq (string_bytes (get_or files at d).0) name ≡ true
    → file_of name (all_named (drop at files)) ≡ Some (bytes_at files at)
file_of-hit name [] at d h e = absurd (omega arith)
file_of-hit name (file ∷ files) zero d h e = rw e refl
file_of-hit name (file ∷ files) (suc at) d h e = file_of-hit name files at d (omega arith) e

-- the bytes at a place are those of the file that is read there
pub bytes_at-get_or : (files : List (String Global × Vec ℕ Global)) (at : ℕ) (d : String Global × Vec ℕ Global) → at < length files
    → bytes_at files at ≡ (get_or files at d).1.items
bytes_at-get_or [] at d h = absurd (omega arith)
bytes_at-get_or (file ∷ files) zero d h = refl
bytes_at-get_or (file ∷ files) (suc at) d h = bytes_at-get_or files at d (omega arith)

-- past the last file there are no bytes
pub bytes_at-past : (files : List (String Global × Vec ℕ Global)) (at : ℕ) → length files ≤ at → bytes_at files at ≡ []
bytes_at-past [] at h = refl
bytes_at-past (file ∷ files) zero h = absurd (omega arith)
bytes_at-past (file ∷ files) (suc at) h = bytes_at-past files at (omega arith)
