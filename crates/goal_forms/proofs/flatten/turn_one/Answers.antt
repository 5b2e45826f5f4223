use Rattle.goal_forms.proofs.FlatteningLaws.{work_done, work_falls}
use Rattle.goal_forms.proofs.FlatHeightLaws.{work_low}
use Rattle.std.proofs.Common.{arith}
use Rattle.goal_forms.proofs.SizeLaws.{pushed_parts}
use Rattle.goal_forms.proofs.UnnamedLaws.{pushed_unnamed}
use Rattle.goal_forms.proofs.flatten.turn_one.Goals as goal

pub loop-work-smaller : goal.loop-work-smaller
loop-work-smaller c = work_falls c.args.names.now _ _ _ c.in-Some.work c.in-Some.ensures.items c.in_ok-turn_work.ensures.falls

pub loop-work-preserved : goal.loop-work-preserved
loop-work-preserved c = record {
  made = work_done c.args.names.now _ _ c.turn_work.new.works.items c.in-Some.work _ _ _ c.in-Some.ensures.items c.in_ok-turn_work.ensures.made c.loop-work.invariant.made;
  below = c.in_ok-turn_work.ensures.below;
  low = λ datum made there.
      work_low c.args.names.now _ _ c.turn_work.new.works.items c.in-Some.work _ _ _ _ c.in-Some.ensures.items c.in_ok-turn_work.ensures.low (c.loop-work.invariant.low datum made there);
  named = omega (arith, pushed_unnamed c.args.names.now _ c.loop-work.works.items c.in-Some.work c.in-Some.ensures.items, c.in_ok-turn_work.ensures.named, c.loop-work.invariant.named);
  parts = omega (arith, pushed_parts c.args.names.now _ c.loop-work.works.items c.in-Some.work c.in-Some.ensures.items, c.in_ok-turn_work.ensures.parts, c.loop-work.invariant.parts);
}

pub turn_work-requires-clause-room : goal.turn_work-requires-clause-room
turn_work-requires-clause-room c = omega (arith, pushed_parts c.args.names.now _ c.loop-work.works.items c.in-Some.work c.in-Some.ensures.items, c.loop-work.invariant.parts, c.requires.room)
