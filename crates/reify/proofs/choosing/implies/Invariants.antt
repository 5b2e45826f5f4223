use Rattle.std.proofs.Common.{◌≡◌, drop, map}
use Rattle.std.specs.List.{list_all}
use Rattle.kan_solving.specs.Solving.{replaced_by}
use Rattle.reify.specs.Choosing.{made_equal}
use Rattle.reify.proofs.choosing.implies.Given as goal

abbrev pub invariant-loop-pair : goal.invariant-loop-pair
invariant-loop-pair l =
    list_all (made_equal (map replaced_by l.other)) (map replaced_by l.form) ≡ list_all (made_equal (map replaced_by l.other)) (map replaced_by (drop l.pair-index l.form))
