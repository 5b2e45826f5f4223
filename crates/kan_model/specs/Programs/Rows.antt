-- What the rows of tables note of the trees that they stand for.
use Rattle.std.specs.Prelude.{◌≡◌, List, map}
use Rattle.kan_model.specs.Programs.Goals.{Template, Goal}
use Rattle.kan_model.specs.Programs.Measures.{slots, goal_slots, noted_height, noted_width}
use Rattle.kan_model.specs.declared.nodes.TermRow.{TermRow}
use Rattle.kan_model.specs.declared.nodes.GoalRow.{GoalRow}

-- the heights and slots of rows are those of these templates
abbrev pub HeightsNoted : List TermRow → List Template → Type 0
HeightsNoted rows ts = map (λ row. row.height) rows ≡ map noted_height ts

abbrev pub SlotsNoted : List TermRow → List Template → Type 0
SlotsNoted rows ts = map (λ row. row.slots) rows ≡ map slots ts

-- the widths and slots of rows are those of these goals
abbrev pub WidthsNoted : List GoalRow → List Goal → Type 0
WidthsNoted rows gs = map (λ row. row.width) rows ≡ map noted_width gs

abbrev pub GoalSlotsNoted : List GoalRow → List Goal → Type 0
GoalSlotsNoted rows gs = map (λ row. row.slots) rows ≡ map goal_slots gs
