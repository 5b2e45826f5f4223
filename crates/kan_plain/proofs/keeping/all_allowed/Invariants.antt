use Rattle.std.proofs.Common.{◌≡◌, map, take, true}
use Rattle.std.specs.List.{list_all}
use Rattle.kan_model.specs.Stores.Kept.{allows}
use Rattle.kan_model.specs.Stores.Prims.{prim as primitive}
use Rattle.kan_solving.specs.Solving.{replaced_by}
use Rattle.kan_plain.proofs.keeping.all_allowed.Given as goal

-- each so far is allowed
abbrev pub invariant-loop-prim : goal.invariant-loop-prim
invariant-loop-prim l = list_all (allows (map replaced_by l.answer)) (map primitive (take l.prim-index l.prims)) ≡ true
