use Rattle.std.proofs.Common.{◌≡◌, ◌++◌, map, take}
use Rattle.kan_grammar.specs.Texts.TopForms.{definitions}
use Rattle.goal_forms.specs.Parts.{sites, site_at}
use Rattle.goal_forms.specs.DefinedRelations.{defined_relations}
use Rattle.goal_forms.proofs.definitions.define_all.Given as goal

-- the relations of the forms so far are added
abbrev pub invariant-loop-place : goal.invariant-loop-place
invariant-loop-place l =
    defined_relations l.rows.items ≡ defined_relations l.fn.rows.items ++ definitions l.names (map (site_at (sites l.flat)) (take l.place-index l.forms))
