use Rattle.std.proofs.Common.{◌≡◌, map, take}
use Rattle.kan_model.specs.Stores.Prims.{prim as primitive}
use Rattle.kan_model.proofs.prims.copied.Given as goal

abbrev pub invariant-loop-prim : goal.invariant-loop-prim
invariant-loop-prim l = map primitive l.copies.items ≡ map primitive (take l.prim-index l.prims)
