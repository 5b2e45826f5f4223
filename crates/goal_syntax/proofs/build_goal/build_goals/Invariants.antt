use Rattle.std.proofs.Common.{◌≡◌, ◌≤◌, ◌+◌, [], reverse, length}
use Rattle.kan_model.specs.Programs.Drafts.{tables}
use Rattle.goal_forms.specs.Contexts.{data_of}
use Rattle.goal_syntax.specs.Building.Entries.{entries}
use Rattle.goal_syntax.specs.Building.GoalsBuilt.{with_goal}
use Rattle.goal_syntax.specs.Building.GoalsLeft.{works_size}
use Rattle.goal_syntax.specs.Building.GrownTables.{Grows}
use Rattle.goal_syntax.specs.Building.InContext.{list_goal, goals_entries, list_entries}
use Rattle.goal_syntax.specs.Building.InContext.{left_width, list_width, KeepsLowIn, NamesIn}
use Rattle.goal_syntax.specs.Building.Widths.{Widens}
use Rattle.goal_syntax.specs.Building.WorkSteps.{AreMade, goals_made, made_later, width_made}
use Rattle.goal_syntax.proofs.build_goal.build_goals.Given as goal

-- what is made once all work is done is the goal of the list, and the tables grew from those before
abbrev pub invariant-loop-work : goal.invariant-loop-work
invariant-loop-work l = record {
  made : made_later l.context l.scope.items (reverse l.works.items) l.draft l.places.items
      ≡ with_goal (list_goal l.context l.fn.scope.items l.fn.place) (goals_made l.fn.draft []);
  below : AreMade l.draft l.places.items;
  grows : Grows (tables l.fn.draft) (tables l.draft);
  named : NamesIn l.context l.fn.draft l.draft;
  room : entries (tables l.draft) + goals_entries l.context l.works.items
      ≤ entries (tables l.fn.draft) + list_entries l.context l.fn.place;
  few : length l.scope.items + goals_entries l.context l.works.items
      ≤ length l.fn.scope.items + list_entries l.context l.fn.place;
  wide : width_made l.draft l.places.items + left_width l.context l.works.items
      ≤ list_width l.context l.fn.place;
  narrow : Widens (list_width l.context l.fn.place) (tables l.fn.draft) (tables l.draft);
  low : KeepsLowIn l.context l.fn.draft l.draft;
}

abbrev pub decreases-loop-work : goal.decreases-loop-work
decreases-loop-work l = works_size (data_of l.context) l.works.items
