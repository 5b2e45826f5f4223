use Rattle.kan_model.specs.Programs.Drafts.{tables}
use Rattle.kan_model.specs.Programs.Nodes.{goal_entry}
use Rattle.goal_syntax.proofs.Building.GoalsBuiltLaws.{made_top, made_below}
use Rattle.std.proofs.Common.{arith}
use Rattle.std.proofs.Common.{ap}
use Rattle.goal_syntax.specs.Building.Widths.{made_width}
use Rattle.goal_syntax.proofs.join_goal.make.Goals as goal

pub returns-clause-made : goal.returns-clause-made
returns-clause-made c = made_top (tables c.args.draft.now) (tables c.add_goal.new.draft) c.args.places.now.items _ _ (goal_entry c.args.node) c.requires.below c.in_ok-place.ensures.grows
    c.in_ok-place.ensures.made c.in_ok-place.ensures.called c.in_ok-push.ensures.items

pub returns-clause-below : goal.returns-clause-below
returns-clause-below c = made_below (tables c.args.draft.now) (tables c.add_goal.new.draft) c.args.places.now.items _ _ _ c.requires.below c.in_ok-place.ensures.grows c.in_ok-place.ensures.made c.in_ok-push.ensures.items

pub returns-clause-narrow : goal.returns-clause-narrow
returns-clause-narrow c =
    let made = made_top (tables c.args.draft.now) (tables c.add_goal.new.draft) c.args.places.now.items _ _ (goal_entry c.args.node) c.requires.below c.in_ok-place.ensures.grows
    c.in_ok-place.ensures.made c.in_ok-place.ensures.called c.in_ok-push.ensures.items in
    omega (arith, ap made_width made, c.in_ok-place.ensures.narrow)
