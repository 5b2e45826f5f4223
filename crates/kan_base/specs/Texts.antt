-- Texts that are read to their end.
use Rattle.std.specs.Prelude.{◌≡◌, ℕ, ◌+◌, ◌≤◌, List, [], ◌++◌, length, Option, None, Some, Result}
use Rattle.std.specs.Prelude.{Ok, Err, ⊤}
use Rattle.std.specs.Io.KnownBytes.{Consumes}
use Rattle.kan_base.specs.Faults.{one_more}
use Rattle.kan_base.specs.declared.text.TextStop.{TextStop}
use Rattle.kan_base.specs.declared.text.TextStop.TheVariants.{Fault, TooLong, Memory}

-- the greatest length of a text, in bytes
abbrev pub greatest_text : ℕ
greatest_text = 1048576

-- the text is all that was there, where that is told, and nothing of it is left
abbrev pub IsWhole : Option (List ℕ) → Option (List ℕ) → List ℕ → Type 0
IsWhole None left text = ⊤
IsWhole (Some xs) left text = (text ≡ xs) × (left ≡ Some [])

-- so many bytes were taken of what was there
pub record TakesCount (n : ℕ) (old new : Option (List ℕ)) : Type 0 where
  pub front : List ℕ
  pub size : length front ≡ n
  pub taken : Consumes old new front

-- no more than so many bytes were taken of what was there
pub record TakesAtMost (n : ℕ) (old new : Option (List ℕ)) : Type 0 where
  pub front : List ℕ
  pub size : length front ≤ n
  pub taken : Consumes old new front

-- why there is no text: one byte more than a text may have was taken, or there was no memory
-- before that; a fault says nothing of what is left
abbrev pub Stops : TextStop → Option (List ℕ) → Option (List ℕ) → Type 0
Stops Fault old new = ⊤
Stops TooLong old new = TakesCount (greatest_text + 1) old new
Stops Memory old new = TakesAtMost greatest_text old new

-- why there is no text, where these bytes of it were taken before
abbrev pub StopsAfter : List ℕ → TextStop → Option (List ℕ) → Option (List ℕ) → Type 0
StopsAfter before Fault old new = ⊤
StopsAfter before TooLong old new =
    (n : ℕ) × (length before + n ≡ greatest_text + 1) × TakesCount n old new
StopsAfter before Memory old new =
    (n : ℕ) × (length before + n ≤ greatest_text) × TakesCount n old new

-- how many calls have failed after the reading of a text: one more where it stopped at a fault,
-- else as many as before
abbrev pub faults_after_text : {A : Type 0} → Result A TextStop → ℕ → ℕ
faults_after_text (Ok x) faults = faults
faults_after_text (Err Fault) faults = one_more faults
faults_after_text (Err TooLong) faults = faults
faults_after_text (Err Memory) faults = faults

-- a piece was read and added to the text, which is no longer than a text may be
pub record AddsPiece (old new : Option (List ℕ)) (text longer : List ℕ) (n : ℕ) : Type 0 where
  pub piece : List ℕ
  pub size : length piece ≡ n
  pub taken : Consumes old new piece
  pub added : longer ≡ text ++ piece
  pub fits : length longer ≤ greatest_text
