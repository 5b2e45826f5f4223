-- What sources and sinks in memory hold.
use Rattle.std.specs.Prelude.{ℕ, ◌-◌, Bool, ◌||◌, ◌&&◌, nat_lt, nat_le, List, [], ◌∷◌, ◌++◌, length}
use Rattle.std.specs.Prelude.{take, drop, min, Option, None, Some, is_none, unwrap_or}
use Rattle.std.specs.Prelude.{if◌then◌else◌}
use Rattle.std.specs.Str.{bytes_eq}
use Rattle.kan_base.specs.Spots.{Spot}
use Rattle.kan_base.specs.Plans.{CallPlan, is_due, after_success, after_failure}

-- a file by its name
pub record NamedFile : Type 0 where
  pub name : List ℕ
  pub bytes : List ℕ

-- what a source in memory has, what is left of the opened place, and how much a read gives at most
pub record SourceState : Type 0 where
  pub input : List ℕ
  pub files : List NamedFile
  pub left : List ℕ
  pub piece : ℕ
  pub plan : CallPlan

-- what the first file of a name holds
abbrev pub file_of : List ℕ → List NamedFile → Option (List ℕ)
file_of name [] = None
file_of name (file ∷ files) =
    if bytes_eq file.name name then Some file.bytes else file_of name files

-- what a place holds
abbrev pub content_of : SourceState → Spot → Option (List ℕ)
content_of source Spot.input = Some source.input
content_of source (Spot.file name) = file_of name source.files

-- an open is to fail: its call is planned to, or the place isn't there
abbrev pub open_fails : SourceState → Spot → Bool
open_fails source place = is_due source.plan || is_none (content_of source place)

-- how many bytes a read gives: as many as are left, fit and stand in a piece
abbrev pub read_count : SourceState → List ℕ → ℕ
read_count source buffer = min (min (length source.left) (length buffer)) source.piece

-- the source after a place was opened
abbrev pub after_open : SourceState → Spot → SourceState
after_open source place =
    record source {
      left = unwrap_or (content_of source place) [];
      plan = after_success source.plan;
    }

-- the source after n bytes were read
abbrev pub after_read : SourceState → ℕ → SourceState
after_read source n = record source { left = drop n source.left; plan = after_success source.plan }

-- the source after a call that failed
abbrev pub after_failed_call : SourceState → SourceState
after_failed_call source = record source { plan = after_failure source.plan }

-- what was put into a sink in memory, how much it has room for, and how much a write takes at most
pub record SinkState : Type 0 where
  pub put : List ℕ
  pub room : ℕ
  pub piece : ℕ
  pub plan : CallPlan

-- a write is to fail: its call is planned to, or nothing of a piece that isn't empty fits
abbrev pub write_fails : SinkState → List ℕ → Bool
write_fails sink piece =
    is_due sink.plan || (nat_lt 0 (length piece) && nat_le sink.room (length sink.put))

-- how many bytes a write takes: as many as the piece has, as it takes at most, and as fit
abbrev pub write_count : SinkState → List ℕ → ℕ
write_count sink piece = min (min (length piece) sink.piece) (sink.room - length sink.put)

-- the sink after the first n bytes of a piece were put
abbrev pub after_write : SinkState → ℕ → List ℕ → SinkState
after_write sink n piece =
    record sink { put = sink.put ++ take n piece; plan = after_success sink.plan }

-- the sink after a write that failed
abbrev pub after_failed_write : SinkState → SinkState
after_failed_write sink = record sink { plan = after_failure sink.plan }
