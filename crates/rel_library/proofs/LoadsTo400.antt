-- Loads that pass the test.
use Rattle.std.proofs.Common.{◌≡◌, true, refl}
use Rattle.std.specs.Str.{chars, is_utf8}
use Rattle.kan_model.specs.Answers.Decimals.{decimal_text}
use Rattle.kan_grammar.specs.Data.Words.{word_token}
use Rattle.kan_grammar.specs.Data.Tokens.{piece, tokens, tokens_from}
use Rattle.kan_grammar.specs.Data.Faults.{read_text, read_tokens, run}
use Rattle.kan_grammar.specs.Texts.Language.{word}
use Rattle.kan_grammar.specs.Texts.TextFaults.{faults_of}
use Rattle.rel_library.specs.Library.{library}
use Rattle.rel_library.proofs.LoadTests.{all_from}

pub from_360 : all_from 10 360 ≡ true
unfolding library read_text read_tokens run tokens tokens_from piece word_token is_utf8 chars lib.Utf8.encode decimal_text word faults_of
from_360 = refl

pub from_370 : all_from 10 370 ≡ true
unfolding library read_text read_tokens run tokens tokens_from piece word_token is_utf8 chars lib.Utf8.encode decimal_text word faults_of
from_370 = refl

pub from_380 : all_from 10 380 ≡ true
unfolding library read_text read_tokens run tokens tokens_from piece word_token is_utf8 chars lib.Utf8.encode decimal_text word faults_of
from_380 = refl

pub from_390 : all_from 10 390 ≡ true
unfolding library read_text read_tokens run tokens tokens_from piece word_token is_utf8 chars lib.Utf8.encode decimal_text word faults_of
from_390 = refl

pub from_400 : all_from 1 400 ≡ true
unfolding library read_text read_tokens run tokens tokens_from piece word_token is_utf8 chars lib.Utf8.encode decimal_text word faults_of
from_400 = refl
