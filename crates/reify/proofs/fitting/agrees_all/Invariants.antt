use Rattle.std.proofs.Common.{◌≡◌, drop, map}
use Rattle.std.specs.List.{list_all}
use Rattle.kan_solving.specs.Solving.{replaced_by}
use Rattle.reify.specs.Fitting.{agrees_at}
use Rattle.reify.proofs.fitting.agrees_all.Given as goal

abbrev pub invariant-loop-other : goal.invariant-loop-other
invariant-loop-other g l =
    list_all (agrees_at (g.St.Store.meaning l.store) l.kind l.var) (map replaced_by l.form) ≡ list_all (agrees_at (g.St.Store.meaning l.store) l.kind l.var) (map replaced_by (drop l.other-index l.form))
