-- What the pieces of a text say together.
use Rattle.std.proofs.Common.{ℕ, ◌+◌, List, ◌++◌, length, Option, ap, ◌∙◌, arith, length-append}
use Rattle.std.specs.Io.KnownBytes.{Consumes}
use Rattle.std.proofs.KnownBytes.{Consumes-trans}
use Rattle.kan_base.specs.Texts.{Stops, StopsAfter}
use Rattle.kan_base.specs.declared.text.TextStop.{TextStop}
use Rattle.kan_base.specs.declared.text.TextStop.TheVariants.{Fault, TooLong, Memory}

-- what stopped a later piece stopped the text
pub Stops-after : (a b c : Option (List ℕ)) (before : List ℕ) (stop : TextStop) → Consumes a b before → StopsAfter before stop b c → Stops stop a c
Stops-after a b c before Fault p q = tt
Stops-after a b c before TooLong p q =
    record { front = before ++ q.2.front; size = length-append before q.2.front ∙ ap (λ m. length before + m) q.2.size ∙ q.1; taken = Consumes-trans a b c before q.2.front p q.2.taken }
Stops-after a b c before Memory p q =
    record { front = before ++ q.2.front; size = omega (arith, length-append before q.2.front, q.2.size, q.1); taken = Consumes-trans a b c before q.2.front p q.2.taken }
