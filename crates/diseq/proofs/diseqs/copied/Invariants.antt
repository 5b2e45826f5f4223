use Rattle.std.proofs.Common.{◌≡◌, map, take}
use Rattle.kan_model.specs.Stores.Prims.{equation as pair_equation}
use Rattle.diseq.proofs.diseqs.copied.Given as goal

abbrev pub invariant-loop-pair : goal.invariant-loop-pair
invariant-loop-pair l = map pair_equation l.copies ≡ map pair_equation (take l.pair-index l.pairs)
