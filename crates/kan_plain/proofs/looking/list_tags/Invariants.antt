use Rattle.std.proofs.Common.{◌≡◌, map, take, flat_map}
use Rattle.kan_model.specs.Stores.Prims.{prim as primitive}
use Rattle.kan_plain.specs.Looking.{tag_at}
use Rattle.kan_solving.specs.Solving.{replaced_by}
use Rattle.kan_plain.proofs.looking.list_tags.Given as goal

abbrev pub invariant-loop-prim : goal.invariant-loop-prim
invariant-loop-prim l = l.tags ≡ flat_map (tag_at (map replaced_by l.answer) l.var) (map primitive (take l.prim-index l.prims))
