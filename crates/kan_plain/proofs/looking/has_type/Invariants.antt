use Rattle.std.proofs.Common.{◌≡◌, map, take, false}
use Rattle.std.specs.List.{list_any}
use Rattle.kan_model.specs.Stores.Kept.{gives_type}
use Rattle.kan_model.specs.Stores.Prims.{prim as primitive}
use Rattle.kan_solving.specs.Solving.{replaced_by}
use Rattle.kan_plain.proofs.looking.has_type.Given as goal

-- none so far gives the type
abbrev pub invariant-loop-prim : goal.invariant-loop-prim
invariant-loop-prim l = list_any (gives_type l.kind (map replaced_by l.answer) l.var) (map primitive (take l.prim-index l.prims)) ≡ false
