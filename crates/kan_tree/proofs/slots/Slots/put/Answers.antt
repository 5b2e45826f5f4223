use Rattle.std.proofs.Common.{rules, refl, sym, ◌∙◌, ◌≡◌, length, get_or}
use Rattle.kan_tree.proofs.SlotLaws.{after_set, after_push}
use Rattle.kan_tree.proofs.slots.Slots.put.Goals as goal

pub returns-then-index-last-clause-ok : goal.returns-then-index-last-clause-ok
returns-then-index-last-clause-ok g c d = after_set c.args.self.now.order.indices c.args.self.now.order.places c.args.self.now.entries.items c.args.place c.index_of-index.result d c.args.entry (search rules) (search rules) c.args.self.now.order.by_place c.requires c.index_of-index.ensures.index (search rules)

pub returns-then-index-last-2-clause-ok : goal.returns-then-index-last-2-clause-ok
returns-then-index-last-2-clause-ok g c d = rw (c.in_ok-push.ensures.items) (after_push c.args.self.now.order.indices c.bring.new.self.indices c.args.self.now.order.places c.args.self.now.entries.items c.args.place d c.args.entry (search rules) (search rules) c.args.self.now.order.by_place c.requires (search rules) (search rules) (search rules) (search rules))

pub returns-else-index-last-2-clause-ok : goal.returns-else-index-last-2-clause-ok
returns-else-index-last-2-clause-ok g c d =
    let there = c.args.self.now.order.indices in
    let end : get_or there c.args.place 16 ≡ length c.args.self.now.entries.items = search rules in
    rw (c.in_ok-push.ensures.items) (after_push there there c.args.self.now.order.places c.args.self.now.entries.items c.args.place d c.args.entry (search rules) (search rules) c.args.self.now.order.by_place c.requires (search rules) end (λ e other same. same ∙ sym end) (λ e other differs. refl))
