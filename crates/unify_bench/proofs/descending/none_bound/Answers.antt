use Rattle.unify_core.proofs.CycleLaws.{no_cycle_empty}
use Rattle.unify_bench.proofs.descending.none_bound.Goals as goal

pub returns : goal.returns
returns g c = no_cycle_empty _ c.in_ok-made.ensures
