-- The library has no fault and no run under each table that goes on from its own names.
use Rattle.std.proofs.Common.{◌≡◌, ℕ, List, [], ◌++◌, None, refl, sym, subst}
use Rattle.std.specs.Str.{chars, is_utf8}
use Rattle.kan_terms.specs.Table.{Table}
use Rattle.kan_grammar.specs.Data.Words.{word_token}
use Rattle.kan_grammar.specs.Data.Tokens.{piece, tokens, tokens_from}
use Rattle.kan_grammar.specs.Data.Faults.{read_text, read_tokens, run}
use Rattle.kan_grammar.specs.Texts.Language.{word}
use Rattle.kan_grammar.specs.Texts.TextFaults.{faults_of, fault_of_text}
use Rattle.kan_grammar.specs.Texts.ProgramText.{queries_of_text, text_meaning}
use Rattle.kan_grammar.specs.Texts.Reply.{IsLibrary}
use Rattle.kan_grammar.specs.declared.dialect.Dialect.{Dialect}
use Rattle.kan_grammar.specs.declared.dialect.Dialect.TheVariants.{Book, All}
use Rattle.rel_library.specs.Library.{library}
use Rattle.rel_library.specs.Accepted.{library_data, library_table, LibraryServes}

abbrev with_more : List (List ℕ) → List (List ℕ) → Table
with_more symbols strings = record { symbols = library_table.symbols ++ symbols; strings = strings }

library_faultless : (symbols strings : List (List ℕ)) → fault_of_text (with_more symbols strings) [] library_data ≡ None
unfolding library read_text read_tokens run tokens tokens_from piece word_token is_utf8 chars lib.Utf8.encode word faults_of
library_faultless symbols strings = refl

library_runless : (symbols strings : List (List ℕ)) (dialect : Dialect) → queries_of_text dialect (with_more symbols strings) [] library_data ≡ []
unfolding library read_text read_tokens run tokens tokens_from piece word_token is_utf8 chars lib.Utf8.encode word text_meaning
library_runless symbols strings Book = refl
library_runless symbols strings All = refl

pub library_serves : LibraryServes
library_serves table goes_on =
    let same : with_more goes_on.symbols.0 table.strings ≡ table = λ i. record { symbols = sym goes_on.symbols.1 i; strings = table.strings } in
    subst (λ t. IsLibrary t library_data) same (record {
      faultless = library_faultless goes_on.symbols.0 table.strings;
      runless = library_runless goes_on.symbols.0 table.strings;
    })
