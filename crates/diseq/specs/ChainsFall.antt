-- The older disequalities of a chain are fewer.
use Rattle.std.specs.Prelude.{◌≤◌, ◌+◌, ◌++◌, ◌∷◌, [], length, max}
use Rattle.std.proofs.Common.{arith}
use Rattle.std.proofs.lemmas.List.{length-append}
use Rattle.diseq.specs.Disequalities.{Disequality}
use Rattle.diseq.specs.Chains.{forms}
use Rattle.diseq.specs.declared.chains.Chain.{Chain}
use Rattle.diseq.specs.declared.chains.Chain.TheVariants.{Empty, Link}
use Rattle.diseq.specs.declared.chains.Link.TheDeep.{deep-Chain}

-- a chain is at most one deeper than it has disequalities
pub deep_le : (chain : Chain) → deep-Chain chain ≤ length (forms chain) + 1
deep_le Empty = omega arith
deep_le (Link link) = omega arith

pub older_shorter : (es : Disequality) (older : Chain) →
    max (deep-Chain older) 0 ≤ length (forms older ++ es ∷ [])
older_shorter es older = omega (arith, deep_le older, length-append (forms older) (es ∷ []))
