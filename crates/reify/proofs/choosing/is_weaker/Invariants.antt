use Rattle.std.proofs.Common.{◌≡◌, drop, map}
use Rattle.std.specs.List.{list_any}
use Rattle.kan_solving.specs.Solving.{replaced_by}
use Rattle.reify.specs.Keeping.{form_of}
use Rattle.reify.specs.Choosing.{is_stronger}
use Rattle.reify.proofs.choosing.is_weaker.Given as goal

abbrev pub invariant-loop-other : goal.invariant-loop-other
invariant-loop-other l =
    list_any (is_stronger (map replaced_by l.form)) (map form_of l.forms) ≡ list_any (is_stronger (map replaced_by l.form)) (map form_of (drop l.other-index l.forms))
