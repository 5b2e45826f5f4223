use Rattle.std.proofs.Common.{length}
use Rattle.kan_model.specs.Programs.Drafts.{tables}
use Rattle.kan_model.specs.Programs.Nodes.{goal_entry}
use Rattle.goal_syntax.proofs.Building.GoalsBuiltLaws.{top_two, join_grown}
use Rattle.goal_syntax.proofs.Building.GoalsBuiltLaws.{two_joined}
use Rattle.std.proofs.Common.{arith}
use Rattle.goal_syntax.proofs.Building.NamedLaws.{join_named}
use Rattle.goal_syntax.proofs.join_goal.join_two.Goals as goal

pub make-requires-clause-there : goal.make-requires-clause-there
make-requires-clause-there c =
    let top = top_two (length (tables c.args.draft.now).goals) _ _ _ _ _ c.in-Some.ensures.items c.in-Some-pop.ensures.items c.requires.below in
    join_grown (tables c.args.draft.now) c.args.row _ _ (goal_entry c.join.result) c.join.ensures top.1 top.2

pub make-requires-clause-below : goal.make-requires-clause-below
make-requires-clause-below c = (top_two (length (tables c.args.draft.now).goals) _ _ _ _ _ c.in-Some.ensures.items c.in-Some-pop.ensures.items c.requires.below).0

pub returns : goal.returns
returns c = record {
  made = two_joined (tables c.args.draft.now) c.args.row c.args.places.now.items _ _ _ _ (goal_entry c.join.result) _ c.in-Some.ensures.items c.in-Some-pop.ensures.items c.join.ensures c.in_ok-make.ensures.made;
  below = c.in_ok-make.ensures.below;
  grows = c.in_ok-make.ensures.grows;
  room = c.in_ok-make.ensures.room;
  terms = c.in_ok-make.ensures.terms;
  narrow = c.in_ok-make.ensures.narrow;
  named = λ names. omega (arith, join_named names c.args.row _ _ (goal_entry c.join.result) c.join.ensures, c.in_ok-make.ensures.named names);
}
