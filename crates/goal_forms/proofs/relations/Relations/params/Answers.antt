use Rattle.goal_forms.proofs.RelationLaws.{arity_none, arity_found, arity_there}
use Rattle.goal_forms.proofs.relations.Relations.params.Goals as goal

pub returns-in_default : goal.returns-in_default
returns-in_default c = arity_none _ c.args.symbol c.in_default.ensures

pub returns-in-Some-get : goal.returns-in-Some-get
returns-in-Some-get c = arity_found c.args.self.now.rows.items _ c.args.symbol _ _ c.in-Some.ensures c.deref.ensures.value c.in-Some-get.ensures.lookup.1

pub returns-in-None : goal.returns-in-None
returns-in-None c = arity_there c.args.self.now.rows.items _ c.args.symbol _ c.in-Some.ensures c.deref.ensures.value c.in-None.ensures.lookup.0
