-- How many entries tables have, and how many at most are made of forms.
use Rattle.std.specs.Prelude.{ℕ, ◌+◌, ◌<◌, ◌≤◌, ◌^◌, List, [], ◌∷◌, length}
use Rattle.kan_terms.specs.Tree.{size}
use Rattle.kan_terms.specs.Table.{Table}
use Rattle.kan_grammar.specs.Texts.Sited.{Sited}
use Rattle.kan_grammar.specs.Texts.TermForms.{TermForm}
use Rattle.kan_grammar.specs.Texts.GoalForms.{GoalForm, GoalForms, none, more}
use Rattle.kan_grammar.specs.Texts.TopForms.{Form, relation, run_of_one, run_of_list, form}
use Rattle.kan_model.specs.Programs.Tables.{Tables}

-- how many entries tables have in all
abbrev pub entries : Tables → ℕ
entries ts = length ts.terms + length ts.arguments + length ts.goals + length ts.relations

-- tables have numbers for so many entries more
abbrev pub HasRoomFor : ℕ → Tables → Type 0
HasRoomFor most ts = entries ts + most < 2 ^ 24

-- at most so many entries came to tables
abbrev pub Adds : ℕ → Tables → Tables → Type 0
Adds most ts us = entries us ≤ entries ts + most

-- how many entries terms are, and the arguments of a call, each of which is named by one more
abbrev pub terms_size : List TermForm → ℕ
terms_size [] = 0
terms_size (u ∷ us) = size u + terms_size us

abbrev pub arguments_size : List TermForm → ℕ
arguments_size us = length us + terms_size us

-- those of the terms of a goal
abbrev pub sides_size : GoalForm → ℕ
sides_size (GoalForm.same u v) = size u + size v
sides_size (GoalForm.differ u v) = size u + size v
sides_size (GoalForm.symbol u) = size u
sides_size (GoalForm.number u) = size u
sides_size (GoalForm.text u) = size u
sides_size (GoalForm.absent tag u) = size u
sides_size (GoalForm.call at s args) = arguments_size args
sides_size g = 0

-- how many entries a goal is at most, with the names that it binds, and goals that are joined; and
-- those behind the first
abbrev mutual
  pub goal_size : GoalForm → ℕ
  goal_size (GoalForm.fresh b gs) = 2 + length b.value + goals_size gs
  goal_size (GoalForm.all_of gs) = goals_size gs
  goal_size (GoalForm.one_of gs) = goals_size gs
  goal_size (GoalForm.clauses gs) = 1 + goals_size gs
  goal_size g = 1 + sides_size g

  pub goals_size : GoalForms → ℕ
  goals_size none = 1
  goals_size (more g gs) = goal_size g + others_size gs

  pub others_size : GoalForms → ℕ
  others_size none = 0
  others_size (more g gs) = 1 + goal_size g + others_size gs

-- how many entries a top form is at most, with the names that it binds
abbrev pub form_size : Form → ℕ
form_size (relation name params gs) = 1 + length params.value + goals_size gs
form_size (run_of_one limit q gs) = 1 + goals_size gs
form_size (run_of_list limit xs gs) = 6 + length xs.value + length xs.value + goals_size gs
form_size f = 0

-- and top forms in a row
abbrev pub forms_size : Table → List Sited → ℕ
forms_size t [] = 0
forms_size t (d ∷ ds) = form_size (form t d) + forms_size t ds
