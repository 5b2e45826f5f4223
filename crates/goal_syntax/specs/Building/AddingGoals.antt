-- What a draft has once the goal of a list of goals was built.
use Rattle.std.specs.Prelude.{ℕ}
use Rattle.kan_model.specs.Programs.Goals.{Goal}
use Rattle.kan_model.specs.Programs.Drafts.{tables}
use Rattle.kan_model.specs.declared.draft.Draft.{Draft}
use Rattle.goal_forms.specs.declared.context.Context.{Context}
use Rattle.goal_syntax.specs.Building.CallsThere.{calls_named}
use Rattle.goal_syntax.specs.Building.Entries.{Adds}
use Rattle.goal_syntax.specs.Building.GrownTables.{HasGoal, Grows}
use Rattle.goal_syntax.specs.Building.InContext.{KeepsClosedIn, NamesIn}
use Rattle.goal_syntax.specs.Building.Widths.{Widens}

-- a goal came to a draft at a place, with at most so many entries and goals at most so wide
pub record AddsGoal (context : Context) (goal : Goal) (most wide : ℕ) (old new : Draft)
    (at : ℕ) : Type 0 where
  pub made : HasGoal (tables new) at goal
  pub grows : Grows (tables old) (tables new)
  pub room : Adds most (tables old) (tables new)
  pub closed : KeepsClosedIn context old new (λ rows. calls_named rows goal)
  pub narrow : Widens wide (tables old) (tables new)
  pub named : NamesIn context old new
