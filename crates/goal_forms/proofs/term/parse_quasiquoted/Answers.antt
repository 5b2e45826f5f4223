use Rattle.goal_forms.proofs.TermLaws.{quasiquoted_only}
use Rattle.goal_forms.proofs.term.parse_quasiquoted.Goals as goal

pub returns-in-Some-clause-form : goal.returns-in-Some-clause-form
returns-in-Some-clause-form c = quasiquoted_only _ c.args.at _ _ c.in-Some.ensures
