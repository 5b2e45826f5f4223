use Rattle.goal_syntax.proofs.Building.GoalsLeftLaws.{goal_built, goal_falls}
use Rattle.goal_forms.specs.Parts.{sites, site_at}
use Rattle.goal_forms.specs.RelationTables.{relations}
use Rattle.std.proofs.Common.{arith}
use Rattle.goal_syntax.proofs.Building.EntryLaws.{goal_entries, goal_scope, own_few}
use Rattle.goal_syntax.proofs.Building.WidthLaws.{goal_wide}
use Rattle.goal_syntax.proofs.build_goal.build_goal.Goals as goal

pub returns-clause-made : goal.returns-clause-made
returns-clause-made c =
    goal_built c.args.context.now.dialect (relations c.args.context.now.relations.now) c.args.context.now.names.now (sites c.args.context.now.flat.now) _ c.args.scope.now.items _ c.args.works.now.items _ _ _ c.parse_goal-goal.result _
    c.parse_goal-goal.ensures.form c.deref.ensures.value c.in_ok-build_own.ensures.made c.in_ok-wait_for.ensures.scope c.in_ok-wait_for.ensures.works

pub returns-clause-falls : goal.returns-clause-falls
returns-clause-falls c =
    goal_falls c.args.context.now.names.now (sites c.args.context.now.flat.now) c.args.scope.now.items (site_at (sites c.args.context.now.flat.now) c.args.place) c.args.works.now.items _ c.parse_goal-goal.result
    c.parse_goal-goal.ensures.size c.in_ok-wait_for.ensures.works

pub build_own-requires-clause-room : goal.build_own-requires-clause-room
build_own-requires-clause-room c = omega (arith, own_few c.args.context.now.names.now (sites c.args.context.now.flat.now) c.parse_goal-goal.result _ c.parse_goal-goal.ensures.form, c.requires.room)

pub returns-clause-room : goal.returns-clause-room
returns-clause-room c =
    omega (
      arith,
      goal_entries c.args.context.now.names.now (sites c.args.context.now.flat.now) c.args.scope.now.items c.parse_goal-goal.result _ c.args.works.now.items _ c.parse_goal-goal.ensures.form c.in_ok-wait_for.ensures.works,
      c.in_ok-build_own.ensures.room,
    )

pub returns-clause-few : goal.returns-clause-few
returns-clause-few c =
    let few = goal_scope c.args.context.now.names.now (sites c.args.context.now.flat.now) c.args.scope.now.items _ c.parse_goal-goal.result _ c.args.works.now.items _ c.parse_goal-goal.ensures.form c.in_ok-wait_for.ensures.scope c.in_ok-wait_for.ensures.works in
    omega (arith, few)

pub returns-clause-wide : goal.returns-clause-wide
returns-clause-wide c =
    goal_wide c.args.context.now.dialect (relations c.args.context.now.relations.now) c.args.context.now.names.now (sites c.args.context.now.flat.now) c.args.scope.now.items c.parse_goal-goal.result _ c.args.works.now.items _ _ _ c.parse_goal-goal.ensures.form
    (rw c.deref.ensures.value at c.in_ok-build_own.ensures.made) c.in_ok-wait_for.ensures.works
