-- How wide the goals of tables are, and how wide goals are that are made of forms.
use Rattle.std.specs.Prelude.{ℕ, ◌+◌, ◌≤◌, max, List, [], ◌∷◌, length}
use Rattle.kan_terms.specs.Table.{Table}
use Rattle.kan_model.specs.Programs.Goals.{Goal}
use Rattle.kan_model.specs.Programs.Scope.{width}
use Rattle.kan_model.specs.Programs.Tables.{Tables, goals_of}
use Rattle.kan_grammar.specs.Texts.Sited.{Sited}
use Rattle.kan_grammar.specs.Texts.GoalForms.{GoalForm, GoalForms, none, more}
use Rattle.kan_grammar.specs.Texts.TopForms.{Form, relation, run_of_one, run_of_list, form}
use Rattle.goal_syntax.specs.Building.GoalsBuilt.{Built}

-- the width of the widest of some goals, and of all together
abbrev pub widest : List Goal → ℕ
widest [] = 0
widest (g ∷ gs) = max (width g) (widest gs)

abbrev pub widths : List Goal → ℕ
widths [] = 0
widths (g ∷ gs) = width g + widths gs

abbrev pub widest_in : Tables → ℕ
widest_in ts = widest (goals_of ts)

-- goals that came to tables are at most so wide
abbrev pub Widens : ℕ → Tables → Tables → Type 0
Widens most ts us = widest_in us ≤ max (widest_in ts) most

-- the width of the goals that were built and wait to be joined
abbrev pub made_width : Built → ℕ
made_width b = widths b.made

-- the width of a goal as it is written, and of goals together
abbrev mutual
  pub goal_width : GoalForm → ℕ
  goal_width (GoalForm.fresh b gs) = length b.value + goals_width gs
  goal_width (GoalForm.all_of gs) = goals_width gs
  goal_width (GoalForm.one_of gs) = goals_width gs
  goal_width (GoalForm.clauses gs) = goals_width gs
  goal_width (GoalForm.call at s args) = length args
  goal_width g = 0

  pub goals_width : GoalForms → ℕ
  goals_width none = 0
  goals_width (more g gs) = goal_width g + goals_width gs

-- the width of the goal of a top form, and that of the widest of some
abbrev pub form_width : Form → ℕ
form_width (relation name params gs) = goals_width gs
form_width (run_of_one limit q gs) = goals_width gs
form_width (run_of_list limit xs gs) = length xs.value + goals_width gs
form_width f = 0

abbrev pub forms_width : Table → List Sited → ℕ
forms_width t [] = 0
forms_width t (d ∷ ds) = max (form_width (form t d)) (forms_width t ds)
