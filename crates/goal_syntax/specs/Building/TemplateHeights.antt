-- Templates that stay low while tables grow.
use Rattle.std.specs.Prelude.{◌≡◌, true, List}
use Rattle.std.specs.List.{list_all}
use Rattle.kan_grammar.specs.Texts.Sited.{Sited}
use Rattle.kan_model.specs.Programs.Scope.{is_low}
use Rattle.kan_model.specs.Programs.Tables.{Tables, templates_of}
use Rattle.goal_forms.specs.Heights.{AreLow}

-- templates that came to tables are low where the data that they are of are, if those before them
-- are
abbrev pub KeepsLow : List Sited → Tables → Tables → Type 0
KeepsLow ds ts us =
    AreLow ds → list_all is_low (templates_of ts.terms) ≡ true →
    list_all is_low (templates_of us.terms) ≡ true
