-- Streams of goals that take no variables, and suspensions that may be forced.
use Rattle.std.specs.Prelude.{ℕ, ◌≤◌, ◌^◌}
use Rattle.kan_model.specs.Stores.Store as facts
use Rattle.kan_model.specs.Streams.Bounds.{top}
use Rattle.stream_core.specs.CounterBounds.{TailFits}
use Rattle.stream_core.specs.Tables.{Table, HasStream, stream_in}
use Rattle.stream_core.specs.declared.streams.Stream.{Stream}

-- a suspension of the table, with room for its force
abbrev pub HasRoom : {I : Type 0} → Table I → I → Type 0
HasRoom t id = t.belongs id × (top (t.tree id) ≤ 2 ^ 62)

-- a stream of the table whose stores have no variables
pub record IsBare {I St : Type 0} (t : Table I) (means : St → facts.Store)
    (s : Stream I St) : Type 0 where
  pub belong : HasStream t s
  pub fits : TailFits t.program 0 0 (stream_in t means s)
