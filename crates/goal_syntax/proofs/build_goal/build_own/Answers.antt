use Rattle.std.proofs.Common.{◌∙◌, ap}
use Rattle.kan_model.specs.Programs.Drafts.{tables}
use Rattle.goal_forms.specs.Parts.{sites}
use Rattle.goal_forms.specs.RelationTables.{relations}
use Rattle.goal_syntax.specs.Building.GoalsBuilt.{own_goal, with_maybe}
use Rattle.goal_syntax.proofs.Building.GoalsBuiltLaws.{built_kept, own_some, own_none}
use Rattle.goal_syntax.proofs.Building.TableLaws.{grows_on}
use Rattle.std.proofs.Common.{arith}
use Rattle.goal_syntax.proofs.Building.EntryLaws.{own_node, sides_few}
use Rattle.goal_syntax.proofs.Building.WidthLaws.{widest_kept}
use Rattle.std.proofs.Common.{ap}
use Rattle.goal_syntax.specs.Building.Named.{node_unnamed}
use Rattle.goal_syntax.proofs.build_goal.build_own.Goals as goal

pub returns-in_ok-make-clause-made : goal.returns-in_ok-make-clause-made
returns-in_ok-make-clause-made c =
    c.in_ok-make.ensures.made ∙ own_some (tables c.build_node.new.draft) c.in-Some.node _ _ _ c.in-Some.is c.in_ok-node.ensures.made
    ∙ ap (with_maybe (own_goal c.args.context.now.dialect (relations c.args.context.now.relations.now) c.args.context.now.names.now (sites c.args.context.now.flat.now) c.args.scope.now c.args.goal))
    (built_kept (tables c.args.draft.now) (tables c.build_node.new.draft) c.args.places.now.items c.in_ok-node.ensures.grows c.in_ok-node.ensures.same c.requires.below)

pub returns-in_ok-make-clause-grows : goal.returns-in_ok-make-clause-grows
returns-in_ok-make-clause-grows c = grows_on _ _ _ c.in_ok-node.ensures.grows c.in_ok-make.ensures.grows

pub returns-in_default-clause-made : goal.returns-in_default-clause-made
returns-in_default-clause-made c =
    built_kept (tables c.args.draft.now) (tables c.build_node.new.draft) c.args.places.now.items c.in_ok-node.ensures.grows c.in_ok-node.ensures.same c.requires.below
    ∙ own_none (tables c.build_node.new.draft) _ _ _ c.in_default.is c.in_ok-node.ensures.made

pub build_node-requires-clause-room : goal.build_node-requires-clause-room
build_node-requires-clause-room c = omega (arith, sides_few c.args.context.now.names.now (sites c.args.context.now.flat.now) c.args.goal, c.requires.room)

pub make-requires-clause-room : goal.make-requires-clause-room
make-requires-clause-room c =
    omega (
      arith,
      own_node c.args.context.now.dialect (relations c.args.context.now.relations.now) c.args.context.now.names.now (sites c.args.context.now.flat.now) c.args.scope.now (tables c.build_node.new.draft) _ c.in-Some.node c.args.goal c.in-Some.is c.in_ok-node.ensures.made,
      c.in_ok-node.ensures.room,
      c.requires.room,
    )

pub returns-in_ok-make-clause-room : goal.returns-in_ok-make-clause-room
returns-in_ok-make-clause-room c =
    omega (
      arith,
      own_node c.args.context.now.dialect (relations c.args.context.now.relations.now) c.args.context.now.names.now (sites c.args.context.now.flat.now) c.args.scope.now (tables c.build_node.new.draft) _ c.in-Some.node c.args.goal c.in-Some.is c.in_ok-node.ensures.made,
      c.in_ok-node.ensures.room,
      c.in_ok-make.ensures.room,
    )

pub returns-in_default-clause-room : goal.returns-in_default-clause-room
returns-in_default-clause-room c = omega (arith, sides_few c.args.context.now.names.now (sites c.args.context.now.flat.now) c.args.goal, c.in_ok-node.ensures.room)

pub returns-in_ok-make-clause-narrow : goal.returns-in_ok-make-clause-narrow
returns-in_ok-make-clause-narrow c = omega (arith, widest_kept (tables c.args.draft.now) (tables c.build_node.new.draft) c.in_ok-node.ensures.grows c.in_ok-node.ensures.same, c.in_ok-make.ensures.narrow)

pub returns-in_default-clause-narrow : goal.returns-in_default-clause-narrow
returns-in_default-clause-narrow c = omega (arith, widest_kept (tables c.args.draft.now) (tables c.build_node.new.draft) c.in_ok-node.ensures.grows c.in_ok-node.ensures.same)

pub returns-in_ok-make-clause-named : goal.returns-in_ok-make-clause-named
returns-in_ok-make-clause-named c =
    omega (arith, ap (node_unnamed c.args.context.now.names.now) c.in-Some.is, c.in_ok-node.ensures.tag, c.in_ok-node.ensures.named, c.in_ok-make.ensures.named c.args.context.now.names.now)
