use Rattle.goal_forms.proofs.TermLaws.{unquoted_only}
use Rattle.goal_forms.proofs.term.parse_unquoted.Goals as goal

pub returns-in-Some-clause-form : goal.returns-in-Some-clause-form
returns-in-Some-clause-form c = unquoted_only _ c.args.at _ _ c.in-Some.ensures
