use Rattle.kan_terms.specs.Terms.{tree}
use Rattle.kan_model.proofs.LettersLaws.{written_step, fewer_wait, parts_spelled}
use Rattle.kan_model.proofs.letters.spell.Goals as goal

pub loop-next-smaller : goal.loop-next-smaller
loop-next-smaller c =
    fewer_wait _ _ c.wait_for_parts.new.waiting.items _ c.in-Some.ensures.items
    (parts_spelled c.pop.new.self.items c.wait_for_parts.new.waiting.items (tree c.in-Some.next.now) c.in_ok-wait_for_parts.ensures)

pub loop-next-preserved : goal.loop-next-preserved
loop-next-preserved c =
    written_step _ _ _ _ _ c.wait_for_parts.new.waiting.items _ _ c.first_letter.ensures c.in_ok-push-2.ensures.items c.in-Some.ensures.items c.loop-next.invariant
    (parts_spelled c.pop.new.self.items c.wait_for_parts.new.waiting.items (tree c.in-Some.next.now) c.in_ok-wait_for_parts.ensures)
