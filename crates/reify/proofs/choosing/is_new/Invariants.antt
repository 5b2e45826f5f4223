use Rattle.std.proofs.Common.{◌≡◌, drop, map}
use Rattle.kan_solving.specs.Solving.{replaced_by}
use Rattle.reify.specs.Keeping.{form_of}
use Rattle.reify.specs.Choosing.{is_new}
use Rattle.reify.proofs.choosing.is_new.Given as goal

abbrev pub invariant-loop-other : goal.invariant-loop-other
invariant-loop-other l = is_new (map form_of l.forms) (map replaced_by l.form) ≡ is_new (map form_of (drop l.other-index l.forms)) (map replaced_by l.form)
