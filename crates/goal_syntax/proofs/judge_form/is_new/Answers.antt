use Rattle.goal_forms.proofs.RelationLaws.{new_none, new_some}
use Rattle.goal_forms.specs.RelationTables.{relations}
use Rattle.goal_syntax.proofs.judge_form.is_new.Goals as goal

pub returns-in-Some : goal.returns-in-Some
returns-in-Some c = new_some c.args.before (relations c.args.relations.now) c.args.symbol c.in-Some.number c.in-Some.ensures

pub returns-in-None : goal.returns-in-None
returns-in-None c = new_none c.args.before (relations c.args.relations.now) c.args.symbol c.in-None.ensures
