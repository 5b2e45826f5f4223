-- How pairs are stored where only clauses read them.
use Rattle.std.specs.Prelude.{ℕ, List}
use Rattle.std.specs.Coded.{Coded, coded×, coded_ℕ, coded_list}
use Rattle.kan_terms.specs.Tree.{Tm}
use Rattle.kan_terms.specs.TermCode.{term_code}

-- pairs are stored one after the other, each as its number and its term
abbrev pub pairs_code : Coded (List (ℕ × Tm))
pairs_code = coded_list (coded× coded_ℕ term_code)
