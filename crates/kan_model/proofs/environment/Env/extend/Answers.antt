use Rattle.std.proofs.Common.{ap, map, ◌∙◌, ◌++◌, ◌∷◌, [], ◌+◌}
use Rattle.std.specs.List.{list_all}
use Rattle.kan_terms.specs.Terms.{tree}
use Rattle.kan_model.specs.Terms.Flat.{is_flat}
use Rattle.kan_terms.specs.declared.terms.Term.TheVariants.{Var}
use Rattle.kan_model.specs.Programs.Environments.{terms_of}
use Rattle.kan_model.proofs.Programs.EnvironmentLaws.{extended-step, extended-flat}
use Rattle.kan_model.proofs.environment.Env.extend.Goals as goal

pub loop-offset-preserved : goal.loop-offset-preserved
loop-offset-preserved c =
    extended-step (terms_of c.args.self) c.args.first c.loop-offset.offset c.loop-offset.values.items _ c.loop-offset.invariant
    (c.in_ok-push.ensures.items ∙ ap (λ n. c.loop-offset.values.items ++ Var (c.args.first + n) ∷ []) c.from.ensures)

pub invariant_of-result : goal.invariant_of-result
invariant_of-result c = record {
  flat = ap (λ vs. list_all is_flat (map tree vs)) c.in_ok-values-2.ensures
      ∙ extended-flat (terms_of c.args.self) c.args.first c.loop-offset.offset c.loop-offset.values.items c.loop-offset.invariant c.args.self.flat;
}
