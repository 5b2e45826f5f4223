-- Reading the texts of examples: what computes there is named once.
use Rattle.std.specs.Prelude.{ℕ, Bool, true, false, List, map, []}
use Rattle.std.specs.Str.{is_utf8, chars}
use Rattle.std.specs.Char.{encode_utf8}
use Rattle.kan_model.specs.Answers.Decimals.{decimal_text}
use Rattle.kan_grammar.specs.Data.Tokens.{Placed, tokens, tokens_from, piece}
use Rattle.kan_grammar.specs.Data.Words.{word_token}
use Rattle.kan_grammar.specs.Data.Written.{Written}
use Rattle.kan_grammar.specs.Data.Enclosing.{as_written}
use Rattle.kan_grammar.specs.Data.Faults.{Reading, data_are, refused, read_text, read_tokens, run}
use Rattle.kan_grammar.specs.Data.Printed.{datum_text}

-- the tokens of a text
unfoldable pub cut : List ℕ → List Placed
unfolding tokens tokens_from piece word_token
cut bytes = tokens bytes

-- the reading of a text as it is written
unfoldable pub read : List ℕ → Reading Written
unfolding read_text read_tokens run tokens tokens_from piece word_token is_utf8 chars encode_utf8
read bytes = read_text as_written bytes

-- the same of bytes that are known to be UTF-8
unfoldable pub read_ascii : List ℕ → Reading Written
unfolding read_tokens run tokens tokens_from piece word_token
read_ascii bytes = read_tokens as_written (tokens bytes)

abbrev pub is_read : Reading Written → Bool
is_read (data_are ds) = true
is_read (refused f) = false

abbrev texts : Reading Written → List (List ℕ)
texts (data_are ds) = map datum_text ds
texts (refused f) = []

-- the texts of the data of a text, where it has some
unfoldable pub reprinted : List ℕ → List (List ℕ)
unfolding read_ascii read_tokens run tokens tokens_from piece word_token decimal_text
reprinted bytes = texts (read_ascii bytes)
