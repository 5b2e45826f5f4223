-- The numbers of the symbols that prefixes stand for.
use Rattle.std.proofs.Common.{◌≡◌, ℕ, List, length, ◌∙◌, ap, Some}
use Rattle.std.specs.Prelude.{unwrap_or}
use Rattle.kan_terms.specs.Table.{Table, number_of, with_symbol}
use Rattle.kan_terms.proofs.TableLaws.{number_of-with_text}
use Rattle.kan_grammar.specs.Data.Printed.{prefix_name}
use Rattle.kan_grammar.specs.Data.Words.{quote, quasiquote, unquote}
use Rattle.kan_grammar.specs.Texts.Sited.{symbol_number}
use Rattle.kan_grammar.specs.Texts.TextNames.{with_prefix, with_prefixes}

-- a text keeps its number
pub keeps_number : (table new : Table) (other text : List ℕ) (n : ℕ) → new ≡ with_symbol table other → number_of table.symbols text ≡ Some n → number_of new.symbols text ≡ Some n
keeps_number table new other text n grown number = ap (λ (t : Table). number_of t.symbols text) grown ∙ number_of-with_text table.symbols other text n number

pub interned_number : (table : Table) (text : List ℕ) (n : ℕ) → number_of table.symbols text ≡ Some n → symbol_number table text ≡ n
interned_number table text n number = ap (λ r. unwrap_or r (length table.symbols)) number

-- the table with the three symbols
pub prefixes_added : (a b c d : Table) → b ≡ with_prefix a quote → c ≡ with_prefix b quasiquote → d ≡ with_prefix c unquote → d ≡ with_prefixes a
prefixes_added a b c d first second third = third ∙ ap (λ t. with_prefix t unquote) (second ∙ ap (λ t. with_prefix t quasiquote) first)

-- with all three, each of the first two keeps the number that it got
pub first_numbers_kept : (first second third : Table) (q k : ℕ) → second ≡ with_prefix first quasiquote → third ≡ with_prefix second unquote →
    number_of first.symbols (prefix_name quote) ≡ Some q → number_of second.symbols (prefix_name quasiquote) ≡ Some k →
    (number_of third.symbols (prefix_name quote) ≡ Some q) × (number_of third.symbols (prefix_name quasiquote) ≡ Some k)
first_numbers_kept first second third q k second_is third_is quoted quasiquoted = (
  keeps_number second third (prefix_name unquote) (prefix_name quote) q third_is
      (keeps_number first second (prefix_name quasiquote) (prefix_name quote) q second_is quoted),
  keeps_number second third (prefix_name unquote) (prefix_name quasiquote) k third_is quasiquoted,
)
