use Rattle.std.proofs.Common.{◌≡◌, drop, map}
use Rattle.std.specs.List.{list_all}
use Rattle.kan_solving.specs.Solving.{replaced_by}
use Rattle.reify.specs.Fitting.{fits_at}
use Rattle.reify.proofs.fitting.fits.Given as goal

abbrev pub invariant-loop-at : goal.invariant-loop-at
invariant-loop-at g l =
    list_all (fits_at (g.St.Store.meaning l.store) (map replaced_by l.form)) (map replaced_by l.form) ≡ list_all (fits_at (g.St.Store.meaning l.store) (map replaced_by l.form)) (map replaced_by (drop l.at-index l.form))
