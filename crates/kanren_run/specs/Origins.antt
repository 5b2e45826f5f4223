-- Where the text of a line of the command comes from, and how it is read.
use Rattle.std.specs.Prelude.{◌≡◌, ℕ, ◌+◌, ◌≤◌, List, length, Option, Some, None, ⊤}
use Rattle.kan_base.specs.Spots.{Spot}
use Rattle.kan_base.specs.Views.{SourceView, SinkView}
use Rattle.kan_base.specs.Texts.{greatest_text, IsWhole, TakesCount, TakesAtMost}
use Rattle.rel_library.specs.Loads.{load}
use Rattle.command_line.specs.Lines.{Line}

-- a place of the source, or a generated load
pub data Origin : Type 0 where
  opened : Spot → Origin
  made : ℕ → Origin

-- the place of a file's name, where none is standard input
abbrev pub spot_of : Option (List ℕ) → Spot
spot_of None = Spot.input
spot_of (Some name) = Spot.file name

abbrev pub origin_from : Option ℕ → Option (List ℕ) → Origin
origin_from (Some number) file = Origin.made number
origin_from None file = Origin.opened (spot_of file)

-- it is a place of the source
abbrev pub IsOpened : Origin → Type 0
IsOpened (Origin.opened spot) = ⊤
IsOpened (Origin.made number) = ⊥

-- where the text of a line comes from
abbrev pub origin_of : Line → Origin
origin_of l = origin_from l.load l.file

-- the source and the sink of a call, before and after it
pub record Ends : Type 0 where
  pub source : SourceView
  pub source_after : SourceView
  pub sink : SinkView
  pub sink_after : SinkView

-- a source and a sink, each before a call and after it
abbrev pub ends_of : SourceView → SourceView → SinkView → SinkView → Ends
ends_of before after put put_after =
    record { source = before; source_after = after; sink = put; sink_after = put_after }

-- a place was read to its end
pub record ReadsPlace (spot : Spot) (e : Ends) (text : List ℕ) : Type 0 where
  pub whole : IsWhole (e.source.holds spot) e.source_after.left text
  pub short : length text ≤ greatest_text

-- a load was made, and the source left alone
pub record MakesLoad (number : ℕ) (e : Ends) (text : List ℕ) : Type 0 where
  pub is : text ≡ load number
  pub source : e.source_after ≡ e.source

-- the text was got whole
abbrev pub GetsWhole : Origin → Ends → List ℕ → Type 0
GetsWhole (Origin.opened spot) e text = ReadsPlace spot e text
GetsWhole (Origin.made number) e text = MakesLoad number e text

-- no more than a text may have was taken of a place, or the source was left alone
abbrev pub GetsAtMost : Origin → Ends → Type 0
GetsAtMost (Origin.opened spot) e =
    TakesAtMost greatest_text (e.source.holds spot) e.source_after.left
GetsAtMost (Origin.made number) e = e.source_after ≡ e.source

-- one byte more than a text may have was taken of a place
abbrev pub GetsTooMuch : Origin → Ends → Type 0
GetsTooMuch (Origin.opened spot) e =
    TakesCount (greatest_text + 1) (e.source.holds spot) e.source_after.left
GetsTooMuch (Origin.made number) e = ⊥

-- a text that isn't too long is told to be there
pub record Holds (spot : Spot) (e : Ends) (text : List ℕ) : Type 0 where
  pub told : e.source.holds spot ≡ Some text
  pub short : length text ≤ greatest_text

-- the text is the one that is told to be there, or the load
abbrev pub IsThere : Origin → Ends → List ℕ → Type 0
IsThere (Origin.opened spot) e text = Holds spot e text
IsThere (Origin.made number) e text = text ≡ load number
