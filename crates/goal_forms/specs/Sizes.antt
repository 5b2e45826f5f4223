-- How many parts data have, and how many are made of what is left to be turned.
use Rattle.std.specs.Prelude.{ℕ, ◌+◌, List, [], ◌∷◌}
use Rattle.kan_terms.specs.Table.{Table}
use Rattle.kan_grammar.specs.Texts.Sited.{Sited, with_sites, within_sites}
use Rattle.sexpr.specs.WrittenForms.{written_form}
use Rattle.sexpr.specs.Printing.{within}
use Rattle.goal_forms.specs.Steps.TermSteps.{site_size}
use Rattle.goal_forms.specs.declared.flatten.Work.{Work}
use Rattle.goal_forms.specs.declared.flatten.Work.TheVariants as works

-- how many parts data have
abbrev pub parts_in : List Sited → ℕ
parts_in [] = 0
parts_in (d ∷ ds) = site_size d + parts_in ds

-- how many parts are made of a piece of work
abbrev pub work_parts : Table → Work → ℕ
work_parts names (works.Datum d) = site_size (with_sites names (written_form names d.now))
work_parts names (works.Rest items last at) =
    site_size (within_sites names at (within names items last))
work_parts names (works.Pair at) = 1
work_parts names (works.Prefixed at s) = 4

-- and of all work on a stack
abbrev pub works_parts : Table → List Work → ℕ
works_parts names [] = 0
works_parts names (w ∷ ws) = work_parts names w + works_parts names ws
