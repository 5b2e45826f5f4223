use Rattle.goal_forms.proofs.TermLaws.{cons_two}
use Rattle.goal_forms.proofs.term.parse_cons.Goals as goal

pub returns-in-Some-clause-form : goal.returns-in-Some-clause-form
returns-in-Some-clause-form c = cons_two _ c.args.at _ _ _ c.in-Some.ensures
