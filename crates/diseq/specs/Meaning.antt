-- What the code's disequalities stand for.
use Rattle.std.specs.Prelude.{[], List, unwrap_or}
use Rattle.kan_tree.specs.UnderKeys.{under_key}
use Rattle.diseq.specs.Chains.{forms}
use Rattle.diseq.specs.Disequalities.{Disequality}
use Rattle.diseq.specs.Kept.{Disequalities, Watchers}
use Rattle.diseq.specs.declared.watching.Watched.{Watched}
use Rattle.diseq.specs.declared.diseqs.Diseqs.{Diseqs}

-- what a variable watches is what is stored at it, and nothing where there is nothing
abbrev pub watchers : Watched → Watchers
watchers watched x = unwrap_or (under_key forms watched.chains x) []

-- the disequalities as they were when they were asserted, in the order of assertion
abbrev pub asserted_in : Diseqs → List Disequality
asserted_in diseqs = forms diseqs.asserted

abbrev pub watching_in : Diseqs → Watchers
watching_in diseqs = watchers diseqs.watched

abbrev pub disequalities_in : Diseqs → Disequalities
disequalities_in diseqs =
    record { asserted = asserted_in diseqs; watching = watching_in diseqs }
