use Rattle.std.proofs.Common.{◌≡◌, ℕ, take}
use Rattle.std.specs.Prelude.{nat_eq}
use Rattle.std.specs.HashMap.{get}
use Rattle.kan_grammar.specs.Texts.Resolved.{relation_number}
use Rattle.goal_forms.specs.DefinedRelations.{defined_relations}
use Rattle.goal_forms.proofs.relations.Relations.of.Given as goal

-- the relations so far have their numbers
abbrev pub invariant-loop-place : goal.invariant-loop-place
invariant-loop-place l = (symbol : ℕ) → get nat_eq l.numbers symbol ≡ relation_number (defined_relations (take l.place l.fn.rows.items)) symbol
