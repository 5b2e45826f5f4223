use Rattle.std.proofs.Common.{map, drop, Option}
use Rattle.kan_terms.specs.Terms.{sides}
use Rattle.type_absence.specs.Types.{Types}
use Rattle.type_absence.specs.Meaning.{types}
use Rattle.kan_store.specs.Moving.{TypesMove}
use Rattle.kan_store.proofs.moving.move_types.Given as goal

-- what the pairs that are left make of what was made so far is what all make of the first ones
abbrev pub invariant-loop-pair : goal.invariant-loop-pair
invariant-loop-pair g l = (r : Option Types) → TypesMove (g.B.Bindings.pairs l.bindings) (types l.kinds) (map sides (drop l.pair-index l.added)) r → TypesMove (g.B.Bindings.pairs l.bindings) (types l.fn.kinds) (map sides l.added) r
