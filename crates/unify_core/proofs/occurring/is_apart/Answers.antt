use Rattle.std.proofs.Common.{sym, arith}
use Rattle.kan_terms.specs.Terms.{tree}
use Rattle.unify_core.specs.LentBindings.{with_lent}
use Rattle.unify_core.proofs.NewLaws.{none_in_full, new_apart}
use Rattle.unify_core.proofs.occurring.is_apart.Goals as goal

pub returns-in-None : goal.returns-in-None
returns-in-None g c _ = none_in_full (with_lent c.args.lent.now (g.B.Bindings.pairs c.args.bindings.now)) c.args.var (tree c.args.term.now) (sym c.in-None.ensures)

pub returns-else-old-greatest : goal.returns-else-old-greatest
returns-else-old-greatest g c all =
    new_apart (g.B.Bindings.pairs c.args.bindings.now) c.args.lent.now c.args.var (tree c.args.term.now) c.in-Some-greatest_variable.old c.in-Some.greatest
    (sym c.in-Some-greatest_variable.ensures) (sym c.in-Some.ensures) (omega arith) (omega arith) (c.all_above.ensures all)
