-- Whether symbols in data have names, and strings texts: 0 where all have, and else 1.
use Rattle.std.specs.Prelude.{◌≡◌, ℕ, max, Bool, true, false, is_some, List, [], ◌∷◌}
use Rattle.kan_terms.specs.Table.{Table, name_of}
use Rattle.kan_grammar.specs.Texts.Sited.{Sited}
use Rattle.goal_forms.specs.declared.prefixes.Prefixes.{Prefixes}
use Rattle.goal_forms.specs.declared.flatten.Work.{Work}
use Rattle.goal_forms.specs.declared.flatten.Work.TheVariants as works

abbrev pub lack : Bool → ℕ
lack true = 0
lack false = 1

-- a symbol and a string
abbrev pub symbol_unnamed : Table → ℕ → ℕ
symbol_unnamed names s = lack (is_some (name_of names.symbols s))

abbrev pub string_unnamed : Table → ℕ → ℕ
string_unnamed names s = lack (is_some (name_of names.strings s))

-- a datum, and data
abbrev pub site_unnamed : Table → Sited → ℕ
site_unnamed names (Sited.name at s) = symbol_unnamed names s
site_unnamed names (Sited.text at s) = string_unnamed names s
site_unnamed names (Sited.num at n) = 0
site_unnamed names (Sited.bool at b) = 0
site_unnamed names (Sited.nil at) = 0
site_unnamed names (Sited.pair at a d) = max (site_unnamed names a) (site_unnamed names d)

abbrev pub sites_unnamed : Table → List Sited → ℕ
sites_unnamed names [] = 0
sites_unnamed names (d ∷ ds) = max (site_unnamed names d) (sites_unnamed names ds)

-- the symbols of prefixes, and those that wait on a stack
pub record AreNamed (names : Table) (prefixes : Prefixes) : Type 0 where
  pub quote : symbol_unnamed names prefixes.quote ≡ 0
  pub quasiquote : symbol_unnamed names prefixes.quasiquote ≡ 0
  pub unquote : symbol_unnamed names prefixes.unquote ≡ 0

abbrev pub work_unnamed : Table → Work → ℕ
work_unnamed names (works.Prefixed at s) = symbol_unnamed names s
work_unnamed names w = 0

abbrev pub works_unnamed : Table → List Work → ℕ
works_unnamed names [] = 0
works_unnamed names (w ∷ ws) = max (work_unnamed names w) (works_unnamed names ws)
