use Rattle.std.proofs.Common.{sym, subst}
use Rattle.stream_core.specs.TableKinds.LinkedThunks.{IsLevel, linked_layers}
use Rattle.stream_core.proofs.linked_ids.level_of.Goals as goal

pub returns-in-Bind : goal.returns-in-Bind
returns-in-Bind g c goal =
    let means = g.St.Store.meaning in
    subst (λ t. IsLevel means goal (linked_layers means goal t) c.args.inside c.bound_level.result) (sym c.in-Bind.is) (c.bound_level.ensures goal)
