use Rattle.std.proofs.Common.{◌≡◌, map, take}
use Rattle.kan_model.specs.Streams.Bounds.{highest}
use Rattle.susp_cells.proofs.tops.highest_noted.Given as goal

abbrev pub invariant-loop-store : goal.invariant-loop-store
invariant-loop-store g l = l.most ≡ highest (map g.St.Store.meaning (take l.store-index l.stores)) l.least
