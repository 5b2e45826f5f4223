use Rattle.std.proofs.Common.{◌≡◌, take, map, flat_map}
use Rattle.kan_model.specs.Terms.Letters.{splice}
use Rattle.kan_solving.specs.Solving.{replaced_by}
use Rattle.kan_solving.proofs.solving.splice_all.Given as goal

abbrev pub invariant-loop-letter : goal.invariant-loop-letter
invariant-loop-letter l = l.made.items ≡ flat_map (splice (map replaced_by l.replacement)) (take l.letter-index l.letters)
