use Rattle.std.proofs.Common.{arith, ◌+◌}
use Rattle.goal_forms.proofs.SizeLaws.{front_parts, next_parts}
use Rattle.goal_forms.specs.Parts.{sites}
use Rattle.goal_forms.specs.Places.{stack_sites}
use Rattle.goal_forms.proofs.FlatHeightLaws.{next_low, next_made}
use Rattle.goal_forms.proofs.flatten.turn.Goals as goal

pub loop-datum-preserved : goal.loop-datum-preserved
loop-datum-preserved c = record {
  made = next_made c.args.names.now c.args.forms.now c.loop-datum.datum-index _ _ (stack_sites (sites c.loop-datum.table) c.loop-datum.places.items) _ c.loop-datum-test.true c.datum-item.is c.in_ok-turn_one.ensures.made c.loop-datum.invariant.made;
  below = c.in_ok-turn_one.ensures.below;
  low = λ data_low made there.
      next_low c.args.names.now c.args.forms.now c.loop-datum.datum-index _ (stack_sites (sites c.loop-datum.table) c.loop-datum.places.items) _ (sites c.loop-datum.table) (sites c.turn_one.new.table)
      c.loop-datum-test.true c.datum-item.is c.in_ok-turn_one.ensures.made c.in_ok-turn_one.ensures.low data_low (c.loop-datum.invariant.low data_low made there);
  named = omega (arith, c.in_ok-turn_one.ensures.named, c.loop-datum.invariant.named);
  parts = omega (arith, next_parts c.args.names.now c.args.forms.now c.loop-datum.datum-index _ c.loop-datum-test.true c.datum-item.is, c.in_ok-turn_one.ensures.parts, c.loop-datum.invariant.parts);
}

pub turn_one-requires-clause-room : goal.turn_one-requires-clause-room
turn_one-requires-clause-room c =
    omega (
      arith,
      next_parts c.args.names.now c.args.forms.now c.loop-datum.datum-index _ c.loop-datum-test.true c.datum-item.is,
      front_parts c.args.names.now c.args.forms.now (c.loop-datum.datum-index + 1),
      c.loop-datum.invariant.parts,
      c.requires.room,
    )

pub returns-clause-parts : goal.returns-clause-parts
returns-clause-parts c = omega (arith, front_parts c.args.names.now c.args.forms.now c.loop-datum.datum-index, c.loop-datum.invariant.parts)
