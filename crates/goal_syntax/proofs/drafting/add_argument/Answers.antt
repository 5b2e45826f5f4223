use Rattle.kan_model.specs.Programs.Drafts.{tables}
use Rattle.goal_syntax.proofs.Building.TableLaws.{grows_argument, grows_to}
use Rattle.std.proofs.Common.{arith}
use Rattle.goal_syntax.proofs.Building.EntryLaws.{argument_adds}
use Rattle.goal_syntax.proofs.Building.NamedLaws.{argument_named}
use Rattle.goal_syntax.proofs.drafting.add_argument.Goals as goal

pub returns-clause-grows : goal.returns-clause-grows
returns-clause-grows c = grows_to (tables c.args.draft.now) _ _ c.in_ok-at.ensures.added (grows_argument (tables c.args.draft.now) c.args.term c.args.draft.now.grown)

pub returns-clause-room : goal.returns-clause-room
returns-clause-room c = omega (arith, argument_adds (tables c.args.draft.now) _ c.args.term c.in_ok-at.ensures.added)

pub argument-requires-clause-room : goal.argument-requires-clause-room
argument-requires-clause-room c = omega (arith, c.requires.room)

pub returns-clause-named : goal.returns-clause-named
returns-clause-named c = λ names. omega (arith, argument_named names (tables c.args.draft.now) _ c.args.term c.in_ok-at.ensures.added)
