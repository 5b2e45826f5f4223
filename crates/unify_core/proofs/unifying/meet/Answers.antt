use Rattle.std.proofs.Common.{rules}
use Rattle.kan_terms.specs.Terms.{tree}
use Rattle.unify_core.specs.LentBindings.{with_lent}
use Rattle.unify_core.proofs.Steps.WalkSteps.{walked_end, no_variable}
use Rattle.unify_core.proofs.unifying.meet.Goals as goal

pub bind_unless_inside-requires-clause-other : goal.bind_unless_inside-requires-clause-other
bind_unless_inside-requires-clause-other g c = (
  walked_end (with_lent c.args.lent.now.items (g.B.Bindings.pairs c.args.bindings.now)) c.requires (tree c.args.next.right.now) (tree c.walk_on-right.result.now) (search rules),
  search rules,
)

pub bind_unless_inside-requires-in-Var-right : goal.bind_unless_inside-requires-in-Var-right
bind_unless_inside-requires-in-Var-right g c = record {
  no_cycle = c.requires;
  other = (
    walked_end (with_lent c.args.lent.now.items (g.B.Bindings.pairs c.args.bindings.now)) c.requires (tree c.args.next.left.now) (tree c.walk_on-left.result.now) (search rules),
    no_variable c.in-Var-right.var c.walk_on-left.result.now c.in_default.not-Var,
  );
}
