use Rattle.std.specs.Prelude.{length}
use Rattle.kan_model.specs.Programs.Drafts.{tables}
use Rattle.goal_syntax.proofs.Building.TermsLeftLaws.{adds_on, adds_argument, arguments_put, first_below, later_below}
use Rattle.goal_syntax.proofs.build_term.put_arguments.Goals as goal

pub add_argument-requires-clause-there : goal.add_argument-requires-clause-there
add_argument-requires-clause-there c = first_below (length (tables c.args.draft.now).terms) c.args.terms.now _ _ c.in-Some.ensures.cases.0 c.requires.below

pub put_behind-requires-clause-below : goal.put_behind-requires-clause-below
put_behind-requires-clause-below c = later_below (tables c.args.draft.now) _ c.args.terms.now _ _ c.in-Some.ensures.cases.0 c.in_ok-at.ensures.put c.requires.below

pub returns-clause-put : goal.returns-clause-put
returns-clause-put c =
    arguments_put (tables c.args.draft.now) (tables c.add_argument.new.draft) _ c.args.terms.now _ _ _ c.in-Some.ensures.cases.0 c.in_ok-at.ensures.put c.in_ok-at.ensures.place c.in_ok-put_behind.ensures.put

pub returns-clause-adds : goal.returns-clause-adds
returns-clause-adds c =
    adds_on (tables c.args.draft.now) (tables c.add_argument.new.draft) _ (adds_argument (tables c.args.draft.now) _ _ c.in_ok-at.ensures.put c.in_ok-at.ensures.grows) c.in_ok-put_behind.ensures.adds
