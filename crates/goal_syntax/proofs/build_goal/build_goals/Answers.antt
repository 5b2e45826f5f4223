use Rattle.goal_forms.specs.Parts.{sites}
use Rattle.goal_forms.specs.RelationTables.{relations}
use Rattle.goal_syntax.proofs.Building.TableLaws.{grows_on}
use Rattle.goal_syntax.proofs.Building.GoalsLeftLaws.{work_done, work_falls}
use Rattle.goal_syntax.proofs.Building.TermHeightLaws.{low_on}
use Rattle.kan_model.specs.Programs.Drafts.{tables}
use Rattle.std.proofs.Common.{arith}
use Rattle.goal_syntax.proofs.Building.GoalsBuiltLaws.{goal_called}
use Rattle.goal_syntax.proofs.Building.GoalsLeftLaws.{works_done}
use Rattle.goal_syntax.proofs.Building.EntryLaws.{one_pushed}
use Rattle.goal_syntax.proofs.Building.WidthLaws.{one_widens}
use Rattle.goal_syntax.proofs.build_goal.build_goals.Goals as goal

pub loop-work-smaller : goal.loop-work-smaller
loop-work-smaller c = work_falls (sites c.args.context.now.flat.now) _ _ _ _ c.in-Some.ensures.items c.in_ok-build_next.ensures.falls

pub loop-work-preserved : goal.loop-work-preserved
loop-work-preserved c = record {
  made = work_done c.args.context.now.dialect (relations c.args.context.now.relations.now) c.args.context.now.names.now (sites c.args.context.now.flat.now) c.loop-work.scope.items c.build_next.new.scope.items _ _ c.build_next.new.works.items c.in-Some.work _ _ _
      c.in-Some.ensures.items c.in_ok-build_next.ensures.made c.loop-work.invariant.made;
  below = c.in_ok-build_next.ensures.below;
  grows = grows_on _ _ _ c.loop-work.invariant.grows c.in_ok-build_next.ensures.grows;
  named = omega (arith, c.in_ok-build_next.ensures.named, c.loop-work.invariant.named);
  room = omega (arith, one_pushed c.args.context.now.names.now (sites c.args.context.now.flat.now) _ c.loop-work.works.items c.in-Some.work c.in-Some.ensures.items, c.in_ok-build_next.ensures.room, c.loop-work.invariant.room);
  few = omega (arith, one_pushed c.args.context.now.names.now (sites c.args.context.now.flat.now) _ c.loop-work.works.items c.in-Some.work c.in-Some.ensures.items, c.in_ok-build_next.ensures.few, c.loop-work.invariant.few);
  wide = omega (arith, one_widens c.args.context.now.names.now (sites c.args.context.now.flat.now) _ c.loop-work.works.items c.in-Some.work c.in-Some.ensures.items, c.in_ok-build_next.ensures.wide, c.loop-work.invariant.wide);
  narrow = omega (arith, one_widens c.args.context.now.names.now (sites c.args.context.now.flat.now) _ c.loop-work.works.items c.in-Some.work c.in-Some.ensures.items, c.in_ok-build_next.ensures.wide, c.loop-work.invariant.wide, c.in_ok-build_next.ensures.narrow, c.loop-work.invariant.narrow);
  low = low_on (sites c.args.context.now.flat.now) (tables c.args.draft.now) (tables c.loop-work.draft) (tables c.build_next.new.draft) c.loop-work.invariant.low c.in_ok-build_next.ensures.low;
}

pub returns-clause-called : goal.returns-clause-called
returns-clause-called c =
    goal_called (tables c.args.draft.now) (tables c.loop-work.draft) c.loop-work.places.items _
    (works_done c.args.context.now.dialect (relations c.args.context.now.relations.now) c.args.context.now.names.now (sites c.args.context.now.flat.now) _ c.loop-work.works.items _ _ (omega (arith, c.in_default.ensures.cases)) c.loop-work.invariant.made)

pub build_next-requires-clause-room : goal.build_next-requires-clause-room
build_next-requires-clause-room c = omega (arith, one_pushed c.args.context.now.names.now (sites c.args.context.now.flat.now) _ c.loop-work.works.items c.in-Some.work c.in-Some.ensures.items, c.loop-work.invariant.room, c.requires.room)

pub build_next-requires-clause-few : goal.build_next-requires-clause-few
build_next-requires-clause-few c = omega (arith, one_pushed c.args.context.now.names.now (sites c.args.context.now.flat.now) _ c.loop-work.works.items c.in-Some.work c.in-Some.ensures.items, c.loop-work.invariant.few, c.requires.few)
