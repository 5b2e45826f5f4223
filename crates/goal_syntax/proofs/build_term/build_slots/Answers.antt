use Rattle.std.proofs.Common.{arith, refl}
use Rattle.kan_model.specs.Programs.Drafts.{tables}
use Rattle.goal_syntax.specs.Building.TermsLeft.{AddsTerms}
use Rattle.goal_syntax.proofs.Building.TermsLeftLaws.{adds_on, both_there, slots_next}
use Rattle.goal_syntax.proofs.Building.TermHeightLaws.{slots_low}
use Rattle.goal_syntax.proofs.build_term.build_slots.Goals as goal

pub add_term-requires-in-loop-slot-2-clause-there : goal.add_term-requires-in-loop-slot-2-clause-there
add_term-requires-in-loop-slot-2-clause-there c =
    both_there (tables c.loop-slot.draft) (tables c.add_term-in-loop-slot.new.draft) _ _ _ _ c.in_ok-first.ensures.made c.loop-slot.invariant.made c.in_ok-first.ensures.grows

pub loop-slot-preserved : goal.loop-slot-preserved
loop-slot-preserved c =
    let first : AddsTerms (tables c.loop-slot.draft) (tables c.add_term-in-loop-slot.new.draft) =
    record { grows = c.in_ok-first.ensures.grows; same = c.in_ok-first.ensures.same } in
    let next : AddsTerms (tables c.add_term-in-loop-slot.new.draft) (tables c.add_term-in-loop-slot-2.new.draft) =
    record { grows = c.in_ok-list-2.ensures.grows; same = c.in_ok-list-2.ensures.same } in
    let made = slots_next (tables c.loop-slot.draft) (tables c.add_term-in-loop-slot.new.draft) _ c.args.bound.now c.loop-slot.slot _ _ _ c.loop-slot-test.true c.loop-slot.invariant.within
    c.loop-slot.invariant.made c.in_ok-first.ensures.made c.in_ok-first.ensures.grows c.in_ok-list-2.ensures.made in
    record {
      within = omega arith;
      made = made;
      named = λ names. omega (arith, c.in_ok-first.ensures.named names, c.in_ok-list-2.ensures.named names, c.loop-slot.invariant.named names);
      few = omega (arith, c.loop-slot.invariant.few, c.loop-slot-test.true, c.in_ok-first.ensures.room, c.in_ok-list-2.ensures.room);
      adds = adds_on (tables c.args.draft.now) (tables c.loop-slot.draft) _ c.loop-slot.invariant.adds (adds_on (tables c.loop-slot.draft) (tables c.add_term-in-loop-slot.new.draft) _ first next);
      low = λ short there. c.in_ok-list-2.ensures.low (slots_low _ _ _ c.args.bound.now _ _ c.in_ok-list-2.ensures.made made short) (c.in_ok-first.ensures.low refl (c.loop-slot.invariant.low short there));
    }
