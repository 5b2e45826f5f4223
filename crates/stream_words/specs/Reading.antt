-- What is spelled is read back.
use Rattle.std.specs.Prelude.{◌≡◌}
use Rattle.kan_model.specs.Programs.Goals.{Program}
use Rattle.kan_model.specs.Streams.Stream.{Stream, Thunk}
use Rattle.stream_words.specs.Words.{Word, word_of, numbers_of}
use Rattle.stream_words.specs.Spelled.{of_program, to_program, of_stream, to_stream}
use Rattle.stream_words.specs.Spelled.{of_thunk, to_thunk}

abbrev pub WordsAreRead : Type 0
WordsAreRead = (w : Word) → word_of (numbers_of w) ≡ w

abbrev pub ProgramsAreRead : Type 0
ProgramsAreRead = (p : Program) → to_program (of_program p) ≡ p

abbrev pub StreamsAreRead : Type 0
StreamsAreRead = (s : Stream) → to_stream (of_stream s) ≡ s

abbrev pub SuspensionsAreRead : Type 0
SuspensionsAreRead = (t : Thunk) → to_thunk (of_thunk t) ≡ t
