-- Orders of sixteen places.
use Rattle.std.specs.Prelude.{ℕ, List, ◌≡◌, ◌<◌}
use Rattle.std.proofs.Common.{get_or}

-- there leads from each of sixteen numbers to one from which back leads to it
abbrev pub IsInverse : List ℕ → List ℕ → Type 0
IsInverse back there = (d : ℕ) → d < 16 → get_or back (get_or there d 16) 16 ≡ d
