use Rattle.kan_terms.specs.Terms.{tree}
use Rattle.kan_model.specs.Stores.Calls.{replacement_of}
use Rattle.reify.proofs.WalkingLaws.{walked_step, walked_fewer, parts_spelled}
use Rattle.reify.proofs.walking.spell_in.Goals as goal

pub loop-next-preserved : goal.loop-next-preserved
loop-next-preserved g c =
    walked_step (replacement_of (g.St.Store.meaning c.args.store.now)) c.loop-next.letters.items c.push-in-Some.new.self.items c.first_letter.result c.loop-next.waiting.items c.pop.new.self.items
    c.wait_for_parts.new.waiting.items c.in-Some.next (tree c.walk-found.result.now) _
    c.in-Some.ensures.items c.walk-found.ensures c.first_letter.ensures c.in_ok-push-2.ensures.items (parts_spelled (replacement_of (g.St.Store.meaning c.args.store.now)) c.pop.new.self.items c.wait_for_parts.new.waiting.items (tree c.walk-found.result.now) c.in_ok-wait_for_parts.ensures) c.loop-next.invariant

pub loop-next-smaller : goal.loop-next-smaller
loop-next-smaller g c =
    walked_fewer (replacement_of (g.St.Store.meaning c.args.store.now)) c.loop-next.waiting.items c.pop.new.self.items c.wait_for_parts.new.waiting.items c.in-Some.next (tree c.walk-found.result.now)
    c.in-Some.ensures.items c.walk-found.ensures (parts_spelled (replacement_of (g.St.Store.meaning c.args.store.now)) c.pop.new.self.items c.wait_for_parts.new.waiting.items (tree c.walk-found.result.now) c.in_ok-wait_for_parts.ensures)
