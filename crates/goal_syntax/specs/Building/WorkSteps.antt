-- What a piece of work on goals does to what was made and to what is left.
use Rattle.std.specs.Prelude.{◌≡◌, ℕ, ◌+◌, ◌<◌, ◌≤◌, true, List, length}
use Rattle.kan_model.specs.Programs.Drafts.{tables}
use Rattle.kan_model.specs.declared.draft.Draft.{Draft}
use Rattle.kan_grammar.specs.Texts.Resolved.{Names}
use Rattle.goal_forms.specs.Contexts.{data_of}
use Rattle.goal_forms.specs.Places.{are_below}
use Rattle.goal_forms.specs.declared.context.Context.{Context}
use Rattle.goal_syntax.specs.Building.GoalsBuilt.{Built, stack_goals}
use Rattle.goal_syntax.specs.Building.GoalsLeft.{work_size, works_size}
use Rattle.goal_syntax.specs.Building.InContext.{made_after, goals_entries, next_entries}
use Rattle.goal_syntax.specs.Building.InContext.{left_width, next_width}
use Rattle.goal_syntax.specs.Building.Widths.{made_width}
use Rattle.goal_syntax.specs.declared.build_goal.Work.{Work}

-- the goals of a draft at places, how wide they are together, and that each of them is there
abbrev pub goals_made : Draft → List ℕ → Built
goals_made draft places = stack_goals (tables draft) places

abbrev pub width_made : Draft → List ℕ → ℕ
width_made draft places = made_width (goals_made draft places)

abbrev pub AreMade : Draft → List ℕ → Type 0
AreMade draft places = are_below (length (tables draft).goals) places ≡ true

-- what is made of them once all work that is left is done, the next work first
abbrev pub made_later : Context → Names → List Work → Draft → List ℕ → Built
made_later context scope works draft places =
    made_after context scope works (goals_made draft places)

-- what is left after a piece of work is less than what was left with it
abbrev pub Falls : Context → Work → List Work → List Work → Type 0
Falls context work old new =
    works_size (data_of context) new
    < work_size (data_of context) work + works_size (data_of context) old

-- what is there and what is still to come, counted in entries, didn't become more with it
abbrev pub KeepsEntries : Context → Work → List Work → List Work → ℕ → ℕ → Type 0
KeepsEntries context work old new before after =
    after + goals_entries context new
    ≤ before + (next_entries context work + goals_entries context old)

-- nor did the width of the goals that were made and of those to come
abbrev pub KeepsWidth : Context → Work → List Work → List Work → ℕ → ℕ → Type 0
KeepsWidth context work old new before after =
    after + left_width context new
    ≤ before + (next_width context work + left_width context old)
