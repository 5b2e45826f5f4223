use Rattle.std.proofs.Common.{◌≡◌, map, take}
use Rattle.kan_model.specs.Stores.Store.{equations}
use Rattle.kan_model.specs.Stores.Prims.{prim as primitive}
use Rattle.kan_model.specs.Stores.Prims.{equation}
use Rattle.kan_plain.proofs.plain.list_equations.Given as goal

abbrev pub invariant-loop-prim : goal.invariant-loop-prim
invariant-loop-prim l = map equation l.listed.items ≡ equations (map primitive (take l.prim-index l.prims))
