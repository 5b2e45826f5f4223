-- Sources and sinks as clauses see them.
use Rattle.std.specs.Prelude.{◌≡◌, ℕ, List, Option}
use Rattle.kan_base.specs.Spots.{Spot}

-- what each place holds and what is left of the opened one, where that is told, and how many
-- calls have failed
pub record SourceView : Type 0 where
  pub holds : Spot → Option (List ℕ)
  pub left : Option (List ℕ)
  pub faults : ℕ

-- every place holds what it held
abbrev pub HoldsTheSame : SourceView → SourceView → Type 0
HoldsTheSame old new = (place : Spot) → new.holds place ≡ old.holds place

-- what was put, where that is told, and how many calls have failed
pub record SinkView : Type 0 where
  pub put : Option (List ℕ)
  pub faults : ℕ
