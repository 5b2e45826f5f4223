-- What chains of disequalities stand for.
use Rattle.std.specs.Prelude.{List, []}
use Rattle.std.specs.Arc.{arc_value}
use Rattle.diseq.specs.Disequalities.{Disequality}
use Rattle.diseq.specs.declared.chains.Chain.{Chain}
use Rattle.diseq.specs.declared.chains.Chain.TheVariants.{Empty, Link}

-- the disequalities of a chain, the oldest first
abbrev pub forms : Chain → List Disequality
forms Empty = []
forms (Link link) = arc_value link
