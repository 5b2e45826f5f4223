-- The table of names of a text: its symbols and strings are numbered as their tokens come.
use Rattle.std.specs.Prelude.{◌≡◌, ℕ, ◌+◌, ◌≤◌, List, [], ◌∷◌, ◌++◌, length}
use Rattle.kan_terms.specs.Table.{Table, no_names, with_symbol, with_string}
use Rattle.kan_grammar.specs.Data.Words.{Token, atom, symbol, string, Prefix, quote, quasiquote}
use Rattle.kan_grammar.specs.Data.Words.{unquote}
use Rattle.kan_grammar.specs.Data.Tokens.{Placed, placed, tokens}
use Rattle.kan_grammar.specs.Data.Printed.{prefix_name}

-- a table with the name that a token is, where it is a symbol or a string
abbrev pub with_token : Table → Token → Table
with_token table (atom (symbol s)) = with_symbol table s
with_token table (atom (string s)) = with_string table s
with_token table t = table

-- with the names of tokens in their order
abbrev pub with_tokens : Table → List Placed → Table
with_tokens table [] = table
with_tokens table (placed at t ∷ ts) = with_tokens (with_token table t) ts

-- a table and behind it the names of a text
abbrev pub with_text_names : Table → List ℕ → Table
with_text_names table bytes = with_tokens table (tokens bytes)

-- a table with the symbol that a prefix stands for, and with all three
abbrev pub with_prefix : Table → Prefix → Table
with_prefix table p = with_symbol table (prefix_name p)

abbrev pub with_prefixes : Table → Table
with_prefixes table = with_prefix (with_prefix (with_prefix table quote) quasiquote) unquote

-- the symbols that prefixes stand for, before all other names
abbrev pub first_names : Table
first_names = with_prefixes no_names

-- the names of a text behind a library: first the symbols that prefixes stand for, then the names
-- of the library, and then its own
abbrev pub text_table : List ℕ → List ℕ → Table
text_table library text = with_text_names (with_text_names first_names library) text

-- a table goes on where another ends, so that all numbers stay
pub record GoesOn (old new : Table) : Type 0 where
  pub symbols : (more : List (List ℕ)) × (new.symbols ≡ old.symbols ++ more)
  pub strings : (more : List (List ℕ)) × (new.strings ≡ old.strings ++ more)

-- and it has at most so many symbols and strings more
pub record Extends (most : ℕ) (old new : Table) : Type 0 where
  pub goes_on : GoesOn old new
  pub symbols : length new.symbols ≤ length old.symbols + most
  pub strings : length new.strings ≤ length old.strings + most
