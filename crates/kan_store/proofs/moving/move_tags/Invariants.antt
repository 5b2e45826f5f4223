use Rattle.std.proofs.Common.{map, drop, Option}
use Rattle.kan_terms.specs.Terms.{sides}
use Rattle.type_absence.specs.Absent.{TagsOf}
use Rattle.type_absence.specs.Meaning.{tags}
use Rattle.kan_store.specs.Moving.{TagsMove}
use Rattle.kan_store.proofs.moving.move_tags.Given as goal

-- what the pairs that are left make of what was made so far is what all make of the first ones
abbrev pub invariant-loop-pair : goal.invariant-loop-pair
invariant-loop-pair g l = (r : Option TagsOf) → TagsMove (g.B.Bindings.pairs l.bindings) (tags l.absences) (map sides (drop l.pair-index l.added)) r → TagsMove (g.B.Bindings.pairs l.bindings) (tags l.fn.absences) (map sides l.added) r
