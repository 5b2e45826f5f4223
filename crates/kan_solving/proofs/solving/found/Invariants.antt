use Rattle.std.proofs.Common.{◌≡◌}
use Rattle.kan_solving.proofs.SolvingLaws.{image_from}
use Rattle.kan_solving.proofs.solving.found.Given as goal

-- the image is that by the replacements which are left
abbrev pub invariant-loop-replaced : goal.invariant-loop-replaced
invariant-loop-replaced l = image_from 0 l.replacement l.var ≡ image_from l.replaced-index l.replacement l.var
