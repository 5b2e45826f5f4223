use Rattle.std.proofs.Common.{map, ap, ◌∙◌}
use Rattle.kan_tree.proofs.SlotLaws.{after_copy}
use Rattle.kan_tree.proofs.slots.Slots.again.Goals as goal

pub returns : goal.returns
returns g c d = after_copy _ c.args.self.now.order.indices c.in_ok-copied.field-0.items c.args.self.now.entries.items d (c.in_ok-copied.ensures ∙ ap (map g.E.Again.meaning) c.deref.ensures.value)
