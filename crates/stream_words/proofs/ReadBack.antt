-- What is spelled is read back.
use Rattle.stream_words.specs.Words.{word-back}
use Rattle.stream_words.specs.Spelled.{program-back, stream-back, thunk-back}
use Rattle.stream_words.specs.Reading.{WordsAreRead, ProgramsAreRead, StreamsAreRead, SuspensionsAreRead}

pub words_are_read : WordsAreRead
words_are_read = word-back

pub programs_are_read : ProgramsAreRead
programs_are_read = program-back

pub streams_are_read : StreamsAreRead
streams_are_read = stream-back

pub suspensions_are_read : SuspensionsAreRead
suspensions_are_read = thunk-back
