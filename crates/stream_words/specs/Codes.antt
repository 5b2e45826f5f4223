-- How programs, stores, streams and suspensions are stored: as the numbers of their words.
use Rattle.std.specs.Prelude.{ℕ, List}
use Rattle.std.specs.Coded.{Coded, code_by, coded_ℕ, coded_list}
use Rattle.std.proofs.Common.{ap, ◌∙◌}
use Rattle.kan_model.specs.Programs.Goals.{Program}
use Rattle.kan_model.specs.Stores.Store.{Store}
use Rattle.kan_model.specs.Streams.Stream.{Stream, Thunk}
use Rattle.stream_words.specs.Words.{word_of, numbers_of, word-back}
use Rattle.stream_words.specs.Spelled.{of_program, to_program, program-back}
use Rattle.stream_words.specs.Spelled.{of_store, to_store, store-back}
use Rattle.stream_words.specs.Spelled.{of_stream, to_stream, stream-back}
use Rattle.stream_words.specs.Spelled.{of_thunk, to_thunk, thunk-back}

abbrev pub program_code : Coded Program
program_code =
    code_by (List ℕ) (coded_list coded_ℕ) (λ p. numbers_of (of_program p))
    (λ ns. to_program (word_of ns)) (λ p. ap to_program (word-back (of_program p)) ∙ program-back p)

abbrev pub store_code : Coded Store
store_code =
    code_by (List ℕ) (coded_list coded_ℕ) (λ st. numbers_of (of_store st))
    (λ ns. to_store (word_of ns)) (λ st. ap to_store (word-back (of_store st)) ∙ store-back st)

abbrev pub stream_code : Coded Stream
stream_code =
    code_by (List ℕ) (coded_list coded_ℕ) (λ s. numbers_of (of_stream s))
    (λ ns. to_stream (word_of ns)) (λ s. ap to_stream (word-back (of_stream s)) ∙ stream-back s)

abbrev pub thunk_code : Coded Thunk
thunk_code =
    code_by (List ℕ) (coded_list coded_ℕ) (λ t. numbers_of (of_thunk t))
    (λ ns. to_thunk (word_of ns)) (λ t. ap to_thunk (word-back (of_thunk t)) ∙ thunk-back t)
