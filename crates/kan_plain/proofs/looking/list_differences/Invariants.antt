use Rattle.std.proofs.Common.{◌≡◌, map, take, flat_map}
use Rattle.kan_model.specs.Stores.Prims.{equation, prim as primitive}
use Rattle.kan_plain.specs.Looking.{difference_at}
use Rattle.kan_plain.proofs.looking.list_differences.Given as goal

abbrev pub invariant-loop-prim : goal.invariant-loop-prim
invariant-loop-prim l = map (map equation) l.lists ≡ flat_map difference_at (map primitive (take l.prim-index l.prims))
