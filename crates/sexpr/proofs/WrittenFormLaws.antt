-- What data stand for, by their kinds.
use Rattle.std.proofs.Common.{◌≡◌, ℕ, List, map, ap, sym, ◌∙◌}
use Rattle.std.specs.Prelude.{None, Some}
use Rattle.kan_terms.specs.Table.{name_of}
use Rattle.kan_grammar.specs.Data.Written.{Written, single, prefixed}
use Rattle.sexpr.specs.Meaning.{prefix_of}
use Rattle.sexpr.specs.WrittenForms.{symbol_atom, string_atom, list_of, kind_of, written_form}
use Rattle.kan_terms.specs.Table.{Table}
use Rattle.sexpr.specs.declared.data.Datum.{Datum, fold_out-Datum}
use Rattle.sexpr.specs.declared.data.DatumKind.{DatumKind, roll-DatumKind, fold-DatumKind, fold-roll-DatumKind, map-DatumKind}
use Rattle.sexpr.specs.declared.data.DatumKind.TheOpen.{DatumKind-F}
use Rattle.sexpr.specs.declared.data.Prefix.{Prefix}
use Rattle.sexpr.specs.declared.data.DatumKind.TheVariants as kinds
use Rattle.sexpr.specs.declared.data.DatumKind.TheVariants.{rolls-Symbol, rolls-Text, rolls-List, rolls-Prefixed}

kind_written : Table → DatumKind → ℕ → Written
kind_written names k = fold-DatumKind (ℕ → Written) Written (kind_of names) (λ layer. layer.kind layer.at) k

by_kind : (names : Table) (at : ℕ) (k : DatumKind) → written_form names (record { at = at; kind = k }) ≡ kind_written names k at
unfolding kind_written
by_kind names at k = fold_out-Datum (ℕ → Written) Written (kind_of names) (λ layer. layer.kind layer.at) (record { at = at; kind = k })

by_layer : (names : Table) (at : ℕ) (k : DatumKind) (l : DatumKind-F DatumKind Datum) → roll-DatumKind l ≡ k → written_form names (record { at = at; kind = k }) ≡ kind_written names (roll-DatumKind l) at
by_layer names at k l e = by_kind names at k ∙ ap (λ x. kind_written names x at) (sym e)

-- the fold's own equation at a layer
layer_written : (names : Table) (at : ℕ) (l : DatumKind-F DatumKind Datum) → kind_written names (roll-DatumKind l) at ≡ kind_of names (map-DatumKind DatumKind Datum (ℕ → Written) Written (kind_written names) (written_form names) l) at
unfolding kind_written
layer_written names at l = ap (λ (f : ℕ → Written). f at) (fold-roll-DatumKind (ℕ → Written) Written (kind_of names) (λ layer. layer.kind layer.at) l)

pub written_symbol : (names : Table) (at s : ℕ) → written_form names (record { at = at; kind = kinds.Symbol s }) ≡ single at (symbol_atom (name_of names.symbols s))
written_symbol names at s = by_layer names at (kinds.Symbol s) (DatumKind-F.Symbol s) (rolls-Symbol s) ∙ layer_written names at (DatumKind-F.Symbol s)

pub written_text : (names : Table) (at s : ℕ) → written_form names (record { at = at; kind = kinds.Text s }) ≡ single at (string_atom (name_of names.strings s))
written_text names at s = by_layer names at (kinds.Text s) (DatumKind-F.Text s) (rolls-Text s) ∙ layer_written names at (DatumKind-F.Text s)

pub written_list : (names : Table) (at : ℕ) (ds : List Datum) → written_form names (record { at = at; kind = kinds.List ds None }) ≡ list_of at (map (written_form names) ds) None
written_list names at ds = by_layer names at (kinds.List ds None) (DatumKind-F.List ds None) (rolls-List ds None) ∙ layer_written names at (DatumKind-F.List ds None)

pub written_dotted : (names : Table) (at : ℕ) (ds : List Datum) (d : Datum) → written_form names (record { at = at; kind = kinds.List ds (Some d) }) ≡ list_of at (map (written_form names) ds) (Some (written_form names d))
written_dotted names at ds d = by_layer names at (kinds.List ds (Some d)) (DatumKind-F.List ds (Some d)) (rolls-List ds (Some d)) ∙ layer_written names at (DatumKind-F.List ds (Some d))

pub written_prefixed : (names : Table) (at : ℕ) (p : Prefix) (d : Datum) → written_form names (record { at = at; kind = kinds.Prefixed p d }) ≡ prefixed at (prefix_of p) (written_form names d)
written_prefixed names at p d = by_layer names at (kinds.Prefixed p d) (DatumKind-F.Prefixed p d) (rolls-Prefixed p d) ∙ layer_written names at (DatumKind-F.Prefixed p d)
