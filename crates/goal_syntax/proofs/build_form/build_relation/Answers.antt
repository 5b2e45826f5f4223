use Rattle.std.proofs.Common.{arith, ap, length}
use Rattle.kan_model.specs.Programs.Drafts.{tables}
use Rattle.kan_grammar.specs.Texts.GoalForms.{goal_forms}
use Rattle.goal_forms.specs.Parts.{sites, site_at}
use Rattle.goal_forms.specs.RelationTables.{relations}
use Rattle.goal_syntax.proofs.Building.FormsBuiltLaws.{relation_means}
use Rattle.goal_syntax.proofs.Building.FormsBuiltLaws.{relation_named}
use Rattle.std.proofs.Common.{arith}
use Rattle.goal_syntax.proofs.Building.NamedLaws.{name_site}
use Rattle.std.proofs.Common.{ap}
use Rattle.goal_forms.proofs.UnnamedLaws.{at_unnamed}
use Rattle.goal_forms.specs.Unnamed.{symbol_unnamed}
use Rattle.goal_syntax.proofs.build_form.build_relation.Goals as goal

pub returns-clause-means : goal.returns-clause-means
returns-clause-means c =
    relation_means c.args.context.now.dialect (tables c.args.draft.now) (tables c.build_body.new.draft) (tables c.add_relation.new.draft) (relations c.args.context.now.relations.now) _ _ _ (goal_forms c.args.context.now.names.now (site_at (sites c.args.context.now.flat.now) c.args.goals)) _
    c.deref.ensures.value (c.in_ok-bound.ensures.names c.args.context.now.names.now) (omega (arith, c.len-params.ensures, c.deref.ensures.len, ap length c.deref.ensures.value)) c.in_ok-body.ensures.made c.in_ok-body.ensures.grows c.in_ok-add_relation.ensures.added

pub returns-clause-names : goal.returns-clause-names
returns-clause-names c = relation_named (tables c.args.draft.now) (tables c.build_body.new.draft) (tables c.add_relation.new.draft) _ _ c.in_ok-body.ensures.grows c.in_ok-add_relation.ensures.added c.relation_name-name.ensures

pub returns-clause-named : goal.returns-clause-named
returns-clause-named c =
    omega (
      arith,
      name_site c.args.context.now.names.now (site_at (sites c.args.context.now.flat.now) c.args.head),
      at_unnamed c.args.context.now.names.now (sites c.args.context.now.flat.now) c.args.head,
      ap (symbol_unnamed c.args.context.now.names.now) c.relation_name-name.ensures,
      c.in_ok-body.ensures.named,
      c.in_ok-add_relation.ensures.named c.args.context.now.names.now,
    )
