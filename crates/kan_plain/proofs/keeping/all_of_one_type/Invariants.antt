use Rattle.std.proofs.Common.{◌≡◌, map, take, true}
use Rattle.std.specs.List.{list_all}
use Rattle.kan_model.specs.Stores.Kept.{gives_one_type}
use Rattle.kan_model.specs.Stores.Prims.{prim as primitive}
use Rattle.kan_solving.specs.Solving.{replaced_by}
use Rattle.kan_plain.proofs.keeping.all_of_one_type.Given as goal

-- each so far gives one type
abbrev pub invariant-loop-prim : goal.invariant-loop-prim
invariant-loop-prim l = list_all (gives_one_type (map replaced_by l.answer) (map primitive l.prims)) (map primitive (take l.prim-index l.prims)) ≡ true
