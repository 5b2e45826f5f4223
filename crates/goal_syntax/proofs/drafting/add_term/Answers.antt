use Rattle.kan_model.specs.Programs.Drafts.{tables}
use Rattle.kan_model.specs.Programs.Nodes.{term_entry}
use Rattle.goal_syntax.proofs.Building.TableLaws.{term_made, grows_term, grows_to}
use Rattle.goal_syntax.proofs.Building.TermHeightLaws.{term_low}
use Rattle.std.proofs.Common.{arith}
use Rattle.goal_syntax.proofs.Building.EntryLaws.{term_adds}
use Rattle.goal_syntax.proofs.Building.NamedLaws.{term_named}
use Rattle.goal_syntax.proofs.drafting.add_term.Goals as goal

pub returns-clause-made : goal.returns-clause-made
returns-clause-made c = term_made (tables c.args.draft.now) _ (term_entry c.args.node) _ c.in_ok-at.ensures.added c.in_ok-at.ensures.place

pub returns-clause-grows : goal.returns-clause-grows
returns-clause-grows c = grows_to (tables c.args.draft.now) _ _ c.in_ok-at.ensures.added (grows_term (tables c.args.draft.now) (term_entry c.args.node) c.args.draft.now.grown)

pub returns-clause-low : goal.returns-clause-low
returns-clause-low c = term_low (tables c.args.draft.now) _ (term_entry c.args.node) c.in_ok-at.ensures.added

pub returns-clause-room : goal.returns-clause-room
returns-clause-room c = omega (arith, term_adds (tables c.args.draft.now) _ (term_entry c.args.node) c.in_ok-at.ensures.added)

pub term-requires-clause-room : goal.term-requires-clause-room
term-requires-clause-room c = omega (arith, c.requires.room)

pub returns-clause-named : goal.returns-clause-named
returns-clause-named c = λ names. omega (arith, term_named names (tables c.args.draft.now) _ (term_entry c.args.node) c.in_ok-at.ensures.added)
