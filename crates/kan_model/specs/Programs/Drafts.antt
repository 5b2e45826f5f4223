-- What a draft stands for.
use Rattle.std.specs.Prelude.{List}
use Rattle.kan_model.specs.Programs.Goals.{Template, Goal}
use Rattle.kan_model.specs.Programs.Tables.{Tables, templates_of, goals_of}
use Rattle.kan_model.specs.Programs.Nodes.{tables_from}
use Rattle.kan_model.specs.declared.draft.Draft.{Draft}

abbrev pub tables : Draft → Tables
tables d = tables_from d.terms.items d.arguments.items d.goals.items d.relations.items

abbrev pub templates : Draft → List Template
templates d = templates_of (tables d).terms

abbrev pub goals : Draft → List Goal
goals d = goals_of (tables d)
