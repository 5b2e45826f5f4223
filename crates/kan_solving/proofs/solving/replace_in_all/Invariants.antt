use Rattle.std.proofs.Common.{◌≡◌, map, take}
use Rattle.kan_solving.specs.Solving.{replaced_by}
use Rattle.kan_model.specs.Stores.Composition.{apply_sides}
use Rattle.kan_model.specs.Stores.Prims.{equation}
use Rattle.kan_solving.proofs.solving.replace_in_all.Given as goal

abbrev pub invariant-loop-given : goal.invariant-loop-given
invariant-loop-given l = map equation l.made.items ≡ map (apply_sides (map replaced_by l.replacement)) (map equation (take l.given-index l.pending))
