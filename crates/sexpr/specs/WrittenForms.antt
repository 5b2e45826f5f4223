-- What data stand for: data as they are written, with round parentheses and without the offsets of
-- dots and closes, which a datum doesn't keep.
use Rattle.std.specs.Prelude.{ℕ, List, Option, None, Some}
use Rattle.kan_terms.specs.Table.{Table, name_of}
use Rattle.kan_grammar.specs.Data.Words.{Atom, symbol, string, number, truth, reserved, round}
use Rattle.kan_grammar.specs.Data.Written.{Written, Within, single, list, prefixed, close, dotted}
use Rattle.kan_grammar.specs.Data.Enclosing.{Build, row}
use Rattle.sexpr.specs.Meaning.{prefix_of}
use Rattle.sexpr.specs.declared.data.Datum.{Datum, fold-Datum}
use Rattle.sexpr.specs.declared.data.DatumKind.TheOpen.{DatumKind-F}

-- a symbol's name, and a string's text; a number that has none stands for what no datum may be
abbrev pub symbol_atom : Option (List ℕ) → Atom
symbol_atom (Some name) = symbol name
symbol_atom None = reserved

abbrev pub string_atom : Option (List ℕ) → Atom
string_atom (Some text) = string text
string_atom None = reserved

-- elements up to the close, with a datum after a dot or without
abbrev pub inner_of : List Written → Option Written → Within
inner_of ds None = row ds (close 0)
inner_of ds (Some d) = row ds (dotted 0 d 0)

-- a list of elements, with a datum after its dot or without
abbrev pub list_of : ℕ → List Written → Option Written → Written
list_of at ds last = list at round (inner_of ds last)

-- what a datum's kind stands for at an offset, from what the data in it stand for
abbrev pub kind_of : Table → DatumKind-F (ℕ → Written) Written → ℕ → Written
kind_of names (DatumKind-F.Symbol s) at = single at (symbol_atom (name_of names.symbols s))
kind_of names (DatumKind-F.Text s) at = single at (string_atom (name_of names.strings s))
kind_of names (DatumKind-F.Number n) at = single at (number n)
kind_of names (DatumKind-F.Truth b) at = single at (truth b)
kind_of names (DatumKind-F.List ds last) at = list_of at ds last
kind_of names (DatumKind-F.Prefixed p d) at = prefixed at (prefix_of p) d

-- what a datum stands for, where symbols and strings have these texts
abbrev pub written_form : Table → Datum → Written
written_form names d =
    fold-Datum (ℕ → Written) Written (kind_of names) (λ layer. layer.kind layer.at) d

-- data as a datum keeps them
abbrev pub as_kept : Build Written
as_kept =
    record {
      of_atom = single;
      of_list = λ at s ds end. list_of at ds None;
      of_dotted = λ at s ds point d end. list_of at ds (Some d);
      of_prefixed = prefixed;
    }
