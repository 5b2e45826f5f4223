-- Loads that pass the test.
use Rattle.std.proofs.Common.{◌≡◌, true, refl}
use Rattle.std.specs.Str.{chars, is_utf8}
use Rattle.kan_model.specs.Answers.Decimals.{decimal_text}
use Rattle.kan_grammar.specs.Data.Words.{word_token}
use Rattle.kan_grammar.specs.Data.Tokens.{piece, tokens, tokens_from}
use Rattle.kan_grammar.specs.Data.Faults.{read_text, read_tokens, run}
use Rattle.kan_grammar.specs.Texts.Language.{word}
use Rattle.kan_grammar.specs.Texts.TextFaults.{faults_of}
use Rattle.rel_library.specs.Library.{library}
use Rattle.rel_library.proofs.LoadTests.{all_from}

pub from_320 : all_from 10 320 ≡ true
unfolding library read_text read_tokens run tokens tokens_from piece word_token is_utf8 chars lib.Utf8.encode decimal_text word faults_of
from_320 = refl

pub from_330 : all_from 10 330 ≡ true
unfolding library read_text read_tokens run tokens tokens_from piece word_token is_utf8 chars lib.Utf8.encode decimal_text word faults_of
from_330 = refl

pub from_340 : all_from 10 340 ≡ true
unfolding library read_text read_tokens run tokens tokens_from piece word_token is_utf8 chars lib.Utf8.encode decimal_text word faults_of
from_340 = refl

pub from_350 : all_from 10 350 ≡ true
unfolding library read_text read_tokens run tokens tokens_from piece word_token is_utf8 chars lib.Utf8.encode decimal_text word faults_of
from_350 = refl
