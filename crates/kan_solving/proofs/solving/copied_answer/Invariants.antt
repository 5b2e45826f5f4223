use Rattle.std.proofs.Common.{◌≡◌, map, take}
use Rattle.kan_solving.specs.Solving.{replaced_by}
use Rattle.kan_solving.proofs.solving.copied_answer.Given as goal

abbrev pub invariant-loop-replaced : goal.invariant-loop-replaced
invariant-loop-replaced l = map replaced_by l.copies.items ≡ map replaced_by (take l.replaced-index l.answer)
