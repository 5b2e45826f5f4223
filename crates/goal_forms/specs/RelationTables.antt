-- The relations of a table.
use Rattle.std.specs.Prelude.{List}
use Rattle.kan_grammar.specs.Texts.TopForms.{Defined}
use Rattle.goal_forms.specs.DefinedRelations.{defined_relations}
use Rattle.goal_forms.specs.declared.relations.Relations.{Relations}

abbrev pub relations : Relations → List Defined
relations r = defined_relations r.rows.items
