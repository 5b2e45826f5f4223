-- What the relations of the code stand for.
use Rattle.std.specs.Prelude.{List, [], ◌∷◌, map, Option, Some, None}
use Rattle.kan_grammar.specs.Texts.TopForms as forms
use Rattle.goal_forms.specs.declared.relations.Defined.{Defined}

abbrev pub defined_relation : Defined → forms.Defined
defined_relation d = record { name = d.name; params = d.params }

abbrev pub defined_relations : List Defined → List forms.Defined
defined_relations ds = map defined_relation ds

-- a relation, where there is one
abbrev pub optional_relation : Option Defined → List forms.Defined
optional_relation None = []
optional_relation (Some d) = defined_relation d ∷ []
