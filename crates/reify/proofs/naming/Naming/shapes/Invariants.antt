use Rattle.std.proofs.Common.{◌≡◌, map, take}
use Rattle.reify.specs.Naming.{shape_in}
use Rattle.reify.proofs.naming.Naming.shapes.Given as goal

abbrev pub invariant-loop-letter : goal.invariant-loop-letter
invariant-loop-letter l = l.shapes ≡ map (shape_in l.self) (take l.letter-index l.letters)
