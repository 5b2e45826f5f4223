use Rattle.kan_model.specs.Programs.Drafts.{tables}
use Rattle.kan_model.specs.Programs.Nodes.{goal_entry}
use Rattle.goal_syntax.proofs.Building.TableLaws.{goal_made, goal_called, grows_goal, grows_to}
use Rattle.std.proofs.Common.{arith}
use Rattle.goal_syntax.proofs.Building.EntryLaws.{goal_adds}
use Rattle.goal_syntax.proofs.Building.WidthLaws.{goal_widens}
use Rattle.goal_syntax.proofs.Building.NamedLaws.{goal_named}
use Rattle.goal_syntax.proofs.drafting.add_goal.Goals as goal

pub returns-clause-made : goal.returns-clause-made
returns-clause-made c = goal_made (tables c.args.draft.now) _ (goal_entry c.args.node) _ c.in_ok-at.ensures.added c.in_ok-at.ensures.place

pub returns-clause-grows : goal.returns-clause-grows
returns-clause-grows c = grows_to (tables c.args.draft.now) _ _ c.in_ok-at.ensures.added (grows_goal (tables c.args.draft.now) (goal_entry c.args.node))

pub returns-clause-called : goal.returns-clause-called
returns-clause-called c = goal_called (tables c.args.draft.now) _ (goal_entry c.args.node) c.in_ok-at.ensures.added

pub returns-clause-room : goal.returns-clause-room
returns-clause-room c = omega (arith, goal_adds (tables c.args.draft.now) _ (goal_entry c.args.node) c.in_ok-at.ensures.added)

pub goal-requires-clause-room : goal.goal-requires-clause-room
goal-requires-clause-room c = omega (arith, c.requires.room)

pub returns-clause-narrow : goal.returns-clause-narrow
returns-clause-narrow c = omega (arith, goal_widens (tables c.args.draft.now) _ (goal_entry c.args.node) c.in_ok-at.ensures.added)

pub returns-clause-named : goal.returns-clause-named
returns-clause-named c = λ names. omega (arith, goal_named names (tables c.args.draft.now) _ (goal_entry c.args.node) c.in_ok-at.ensures.added)
