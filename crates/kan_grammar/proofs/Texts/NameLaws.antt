-- Tables that go on where others end.
use Rattle.std.proofs.Common.{◌≡◌, ℕ, ◌+◌, ◌≤◌, Bool, true, false, List, [], ◌∷◌, ◌++◌, length, refl, sym, ap, subst, ◌∙◌, append_assoc, append-nil, arith}
use Rattle.std.proofs.lemmas.List.{length-append}
use Rattle.std.specs.Prelude.{is_some, if◌then◌else◌}
use Rattle.kan_terms.specs.Table.{Table, number_of, with_symbol, with_string}
use Rattle.kan_grammar.specs.Data.Words.{Token, opening, closing, prefix, dot, atom, bad, bad_string, symbol, string, number, truth, out_of_range, reserved}
use Rattle.kan_grammar.specs.Data.Tokens.{Placed, placed, tokens}
use Rattle.kan_grammar.specs.Texts.TextNames.{with_token, with_tokens, with_text_names, with_prefixes, first_names}
use Rattle.kan_grammar.specs.Texts.TextNames.{text_table, GoesOn, Extends}

pub goes_on_same : (table : Table) → GoesOn table table
goes_on_same table = record { symbols = ([], sym (append-nil table.symbols)); strings = ([], sym (append-nil table.strings)) }

behind : (a b c more rest : List (List ℕ)) → b ≡ a ++ more → c ≡ b ++ rest → c ≡ a ++ (more ++ rest)
behind a b c more rest p q = q ∙ ap (λ t. t ++ rest) p ∙ append_assoc a more rest

pub goes_on_further : (a b c : Table) → GoesOn a b → GoesOn b c → GoesOn a c
goes_on_further a b c p q = record {
  symbols = (p.symbols.0 ++ q.symbols.0, behind a.symbols b.symbols c.symbols p.symbols.0 q.symbols.0 p.symbols.1 q.symbols.1);
  strings = (p.strings.0 ++ q.strings.0, behind a.strings b.strings c.strings p.strings.0 q.strings.0 p.strings.1 q.strings.1);
}

pub extends_same : (most : ℕ) (table : Table) → Extends most table table
extends_same most table = record { goes_on = goes_on_same table; symbols = omega arith; strings = omega arith }

pub extends_further : (m n most : ℕ) (a b c : Table) → Extends m a b → Extends n b c → m + n ≤ most → Extends most a c
extends_further m n most a b c p q h = record {
  goes_on = goes_on_further a b c p.goes_on q.goes_on;
  symbols = omega (arith, p.symbols, q.symbols, h);
  strings = omega (arith, p.strings, q.strings, h);
}

-- a text more
more_by : (b : Bool) (texts : List (List ℕ)) (text : List ℕ) → (more : List (List ℕ)) × ((if b then texts else texts ++ text ∷ []) ≡ texts ++ more)
more_by true texts text = ([], sym (append-nil texts))
more_by false texts text = (text ∷ [], refl)

few_by : (b : Bool) (texts : List (List ℕ)) (text : List ℕ) → length (if b then texts else texts ++ text ∷ []) ≤ length texts + 1
few_by true texts text = omega arith
few_by false texts text = omega (arith, length-append texts (text ∷ []))

pub extends_symbol : (table : Table) (text : List ℕ) → Extends 1 table (with_symbol table text)
extends_symbol table text = record {
  goes_on = record { symbols = more_by (is_some (number_of table.symbols text)) table.symbols text; strings = ([], sym (append-nil table.strings)) };
  symbols = few_by (is_some (number_of table.symbols text)) table.symbols text;
  strings = omega arith;
}

pub extends_string : (table : Table) (text : List ℕ) → Extends 1 table (with_string table text)
extends_string table text = record {
  goes_on = record { symbols = ([], sym (append-nil table.symbols)); strings = more_by (is_some (number_of table.strings text)) table.strings text };
  symbols = omega arith;
  strings = few_by (is_some (number_of table.strings text)) table.strings text;
}

pub extends_token : (table : Table) (t : Token) → Extends 1 table (with_token table t)
extends_token table (opening s) = extends_same 1 table
extends_token table (closing s) = extends_same 1 table
extends_token table (prefix p) = extends_same 1 table
extends_token table dot = extends_same 1 table
extends_token table (atom (symbol s)) = extends_symbol table s
extends_token table (atom (string s)) = extends_string table s
extends_token table (atom (number n)) = extends_same 1 table
extends_token table (atom (truth b)) = extends_same 1 table
extends_token table (atom out_of_range) = extends_same 1 table
extends_token table (atom reserved) = extends_same 1 table
extends_token table bad_string = extends_same 1 table
extends_token table bad = extends_same 1 table

pub extends_prefixes : (table : Table) → Extends 3 table (with_prefixes table)
extends_prefixes table =
    extends_further 2 1 3 table _ _ (extends_further 1 1 2 table _ _ (extends_symbol table _) (extends_symbol _ _) (omega arith)) (extends_symbol _ _) (omega arith)

-- a table goes on with the names of tokens, and so with those of a text
goes_on_tokens : (table : Table) (ts : List Placed) → GoesOn table (with_tokens table ts)
goes_on_tokens table [] = goes_on_same table
goes_on_tokens table (placed at t ∷ ts) =
    goes_on_further table (with_token table t) (with_tokens (with_token table t) ts)
    (extends_token table t).goes_on (goes_on_tokens (with_token table t) ts)

pub goes_on_text : (table : Table) (text : List ℕ) → GoesOn table (with_text_names table text)
goes_on_text table text = goes_on_tokens table (tokens text)

pub goes_on_library : (library text : List ℕ) →
    GoesOn (with_text_names first_names library) (text_table library text)
goes_on_library library text = goes_on_text (with_text_names first_names library) text

-- a table that begins with the symbols of prefixes has them already
begun : (more strings : List (List ℕ)) →
    with_prefixes (record { symbols = first_names.symbols ++ more; strings = strings })
    ≡ record { symbols = first_names.symbols ++ more; strings = strings }
begun more strings = refl

pub prefixes_stay : (table : Table) → GoesOn first_names table → with_prefixes table ≡ table
prefixes_stay table on =
    let same : record { symbols = first_names.symbols ++ on.symbols.0; strings = table.strings } ≡ table
    = λ i. record { symbols = sym on.symbols.1 i; strings = table.strings } in
    subst (λ t. with_prefixes t ≡ t) same (begun on.symbols.0 table.strings)

-- so do the names of a text behind a library
pub goes_on_first : (library text : List ℕ) → GoesOn first_names (text_table library text)
goes_on_first library text =
    goes_on_further first_names (with_text_names first_names library) (text_table library text)
    (goes_on_text first_names library) (goes_on_library library text)
