-- Laws of streams.
use Rattle.std.proofs.Common.{refl}
use Rattle.kan_model.specs.Streams.Stream.{Stream, AppendEmpty}

-- the empty stream in front changes nothing
pub append_empty : AppendEmpty
append_empty (Stream.ends hs) = refl
append_empty (Stream.goes_on hs i) = refl
