use Rattle.std.proofs.Common.{arith}
use Rattle.kan_model.specs.Programs.Drafts.{tables}
use Rattle.kan_model.specs.Programs.Nodes.{relation_entry}
use Rattle.goal_syntax.proofs.Building.EntryLaws.{relation_adds}
use Rattle.std.proofs.Common.{ap}
use Rattle.goal_syntax.specs.Building.Widths.{widest_in}
use Rattle.goal_syntax.proofs.Building.NamedLaws.{relation_named}
use Rattle.goal_syntax.proofs.build_form.add_relation.Goals as goal

pub relation-requires-clause-room : goal.relation-requires-clause-room
relation-requires-clause-room c = omega (arith, c.requires.room)

pub returns-clause-room : goal.returns-clause-room
returns-clause-room c = omega (arith, relation_adds (tables c.args.draft.now) _ (relation_entry c.args.relation) c.in_ok-relation.ensures.added)

pub returns-clause-narrow : goal.returns-clause-narrow
returns-clause-narrow c = omega (arith, ap widest_in c.in_ok-relation.ensures.added)

pub returns-clause-named : goal.returns-clause-named
returns-clause-named c = λ names. omega (arith, relation_named names (tables c.args.draft.now) _ (relation_entry c.args.relation) c.in_ok-relation.ensures.added)
