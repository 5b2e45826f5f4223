-- The library is read without a fault.
use Rattle.std.proofs.Common.{◌≡◌, true, refl}
use Rattle.std.specs.Str.{chars, is_utf8}
use Rattle.kan_grammar.specs.Data.Enclosing.{as_written}
use Rattle.kan_grammar.specs.Data.Words.{word_token}
use Rattle.kan_grammar.specs.Data.Tokens.{piece, tokens, tokens_from}
use Rattle.kan_grammar.specs.Data.Faults.{read_text, read_tokens, run}
use Rattle.rel_library.specs.Library.{library}
use Rattle.rel_library.specs.Accepted.{is_read}

pub library_reads : is_read (read_text as_written library) ≡ true
unfolding library read_text read_tokens run tokens tokens_from piece word_token is_utf8 chars lib.Utf8.encode
library_reads = refl
