-- How the goals change that were built and wait to be joined.
use Rattle.std.specs.Prelude.{◌≡◌, ℕ, true, List, length}
use Rattle.kan_terms.specs.Table.{Table}
use Rattle.kan_model.specs.Programs.Tables.{Tables}
use Rattle.goal_forms.specs.Places.{are_below}
use Rattle.goal_syntax.specs.Building.GrownTables.{Grows}
use Rattle.goal_syntax.specs.Building.Entries.{Adds}
use Rattle.goal_syntax.specs.Building.Named.{Lacks}
use Rattle.goal_syntax.specs.Building.GoalsBuilt.{Built, stack_goals}
use Rattle.goal_syntax.specs.Building.Widths.{Widens, made_width}

-- the goals on a stack changed in one way, by at most one goal that came to tables, without terms
-- or names of its own
pub record ChangesGoals (change : Built → Built) (ts us : Tables) (old new : List ℕ) : Type 0 where
  pub made : stack_goals us new ≡ change (stack_goals ts old)
  pub below : are_below (length us.goals) new ≡ true
  pub grows : Grows ts us
  pub room : Adds 1 ts us
  pub terms : us.terms ≡ ts.terms
  pub narrow : Widens (made_width (stack_goals us new)) ts us
  pub named : (names : Table) → Lacks names 0 ts us
