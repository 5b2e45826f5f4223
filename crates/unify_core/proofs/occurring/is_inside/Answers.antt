use Rattle.std.proofs.Common.{ap}
use Rattle.kan_terms.specs.Terms.{tree}
use Rattle.unify_core.specs.LentBindings.{with_lent}
use Rattle.unify_core.proofs.Steps.WalkSteps.{end_apart}
use Rattle.unify_core.proofs.occurring.is_inside.Goals as goal

pub returns-in-Var : goal.returns-in-Var
returns-in-Var g c =
    end_apart (with_lent c.args.lent.now (g.B.Bindings.pairs c.args.bindings.now)) c.requires.no_cycle c.args.var c.in-Var.field-0 (tree c.args.term.now)
    (ap tree c.in-Var.is) c.requires.other
