-- A library that was compiled by itself.
use Rattle.std.proofs.Common.{◌≡◌, sym, ap, ◌∙◌}
use Rattle.kan_terms.specs.Table.{Table}
use Rattle.kan_grammar.specs.Texts.TextNames.{with_prefixes}
use Rattle.goal_syntax.proofs.Compiling.LibraryLaws.{prefixes_again}

-- a table that has the symbols of the prefixes stays as it is with them
pub same_table : (old new : Table) → new ≡ with_prefixes old → with_prefixes old ≡ with_prefixes new
same_table old new is = sym (ap with_prefixes is ∙ prefixes_again old)
