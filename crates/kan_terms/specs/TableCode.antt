-- How a table of names is stored: as its two lists.
use Rattle.std.specs.Prelude.{ℕ, List, refl}
use Rattle.std.specs.Coded.{Coded, code_by, coded×, coded_ℕ, coded_list}
use Rattle.kan_terms.specs.Table.{Table}

abbrev texts_code : Coded (List (List ℕ))
texts_code = coded_list (coded_list coded_ℕ)

abbrev pub table_code : Coded Table
table_code =
    code_by (List (List ℕ) × List (List ℕ)) (coded× texts_code texts_code)
    (λ table. (table.symbols, table.strings))
    (λ lists. record { symbols = lists.0; strings = lists.1 }) (λ table. refl)
