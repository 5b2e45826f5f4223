use Rattle.std.proofs.Common.{◌≡◌, ◌++◌, OnOk, rules, subst, sym}
use Rattle.kan_terms.specs.Terms.{tree}
use Rattle.kan_terms.specs.Waiting.{waiting_trees}
use Rattle.unify_core.proofs.Steps.OccursSteps.{parts_with_variables}
use Rattle.unify_core.proofs.occurring.wait_unless_ground.Goals as goal

pub returns : goal.returns
returns c =
    subst (λ parts. OnOk c.wait_for_parts.result (waiting_trees c.wait_for_parts.new.waiting.items ≡ parts ++ waiting_trees c.args.waiting.now.items))
    (sym (parts_with_variables (tree c.args.term.now) c.greatest_variable.result c.greatest_variable.ensures (search rules))) c.wait_for_parts.ensures
