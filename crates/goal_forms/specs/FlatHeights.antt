-- That all data which are left to be turned, and all their parts, are low.
use Rattle.std.specs.Prelude.{◌≡◌, ℕ, Bool, true, ◌&&◌, List, [], ◌∷◌}
use Rattle.std.specs.List.{list_all}
use Rattle.kan_terms.specs.Table.{Table}
use Rattle.kan_grammar.specs.Texts.Sited.{Sited, with_sites, within_sites}
use Rattle.sexpr.specs.WrittenForms.{written_form}
use Rattle.sexpr.specs.Printing.{within}
use Rattle.goal_forms.specs.Heights.{is_low_datum, AreLow}
use Rattle.goal_forms.specs.Places.{stack_sites, pair_of_last_two, prefixed_last}
use Rattle.goal_forms.specs.declared.flatten.Work.{Work}
use Rattle.goal_forms.specs.declared.flatten.Work.TheVariants as works

-- all data are low that are made while the work on a stack is done, the top first, and those made
-- before
abbrev pub all_low : Table → List Work → List Sited → Bool
all_low names [] made = list_all is_low_datum made
all_low names (works.Datum d ∷ ws) made =
    all_low names ws (with_sites names (written_form names d.now) ∷ made)
all_low names (works.Rest items last at ∷ ws) made =
    all_low names ws (within_sites names at (within names items last) ∷ made)
all_low names (works.Pair at ∷ ws) made =
    list_all is_low_datum made && all_low names ws (pair_of_last_two at made)
all_low names (works.Prefixed at s ∷ ws) made =
    list_all is_low_datum made && all_low names ws (prefixed_last at s made)

-- with those of a table
pub record WorksLow (names : Table) (ws : List Work) (ds : List Sited)
    (places : List ℕ) : Type 0 where
  pub left : all_low names ws (stack_sites ds places) ≡ true
  pub there : AreLow ds
