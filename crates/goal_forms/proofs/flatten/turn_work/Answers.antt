use Rattle.std.proofs.Common.{reverse}
use Rattle.goal_forms.specs.Parts.{sites}
use Rattle.goal_forms.proofs.FlatHeightLaws.{joined_low, prefixed_joined_low}
use Rattle.goal_forms.proofs.flatten.turn_work.Goals as goal

pub returns-in_ok-join-in-Pair-clause-low : goal.returns-in_ok-join-in-Pair-clause-low
returns-in_ok-join-in-Pair-clause-low c = λ low.
    joined_low c.args.names.now c.in-Pair.at (reverse c.args.works.now.items) (sites c.args.table.now) (sites c.join.new.table) c.args.places.now.items c.join.new.places.items
    c.in_ok-join-in-Pair.ensures.made c.in_ok-join-in-Pair.ensures.low (rw c.in-Pair.is at low)

pub returns-in_ok-prefix-in-Prefixed-clause-low : goal.returns-in_ok-prefix-in-Prefixed-clause-low
returns-in_ok-prefix-in-Prefixed-clause-low c = λ low.
    prefixed_joined_low c.args.names.now c.in-Prefixed.at c.in-Prefixed.symbol (reverse c.args.works.now.items) (sites c.args.table.now) (sites c.prefix.new.table) c.args.places.now.items c.prefix.new.places.items
    c.in_ok-prefix-in-Prefixed.ensures.made c.in_ok-prefix-in-Prefixed.ensures.low (rw c.in-Prefixed.is at low)
