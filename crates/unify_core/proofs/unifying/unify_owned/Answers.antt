use Rattle.std.proofs.Common.{[], ◌∷◌, map}
use Rattle.kan_terms.specs.Terms.{sides, tree}
use Rattle.unify_core.specs.Solutions.{equation}
use Rattle.unify_core.proofs.Steps.UnifyClauses.{puts, puts_no_cycle, puts_solutions, puts_some, puts_none}
use Rattle.unify_core.proofs.unifying.unify_owned.Goals as goal

pub bind_all-requires : goal.bind_all-requires
bind_all-requires g c =
    puts (g.B.Bindings.pairs c.args.bindings) c.requires (equation (tree c.args.left.now) (tree c.args.right.now) ∷ []) (map sides c.items.result.now)
    (rw c.items.ensures (rw c.in-Some.is at c.in_ok-would_add.ensures))

pub returns-in-None-clause-none : goal.returns-in-None-clause-none
returns-in-None-clause-none g c =
    puts_none (g.B.Bindings.pairs c.args.bindings) c.requires (tree c.args.left.now) (tree c.args.right.now)
    (rw c.in-None.is at c.in_ok-would_add.ensures)

pub returns-in_ok-bindings-in-Some-clause-no_cycle : goal.returns-in_ok-bindings-in-Some-clause-no_cycle
returns-in_ok-bindings-in-Some-clause-no_cycle g c =
    puts_no_cycle (g.B.Bindings.pairs c.args.bindings) c.requires (equation (tree c.args.left.now) (tree c.args.right.now) ∷ []) (map sides c.items.result.now)
    (rw c.items.ensures (rw c.in-Some.is at c.in_ok-would_add.ensures)) (g.B.Bindings.pairs c.in_ok-bindings-in-Some.bindings) c.in_ok-bindings-in-Some.ensures

pub returns-in_ok-bindings-in-Some-clause-solutions : goal.returns-in_ok-bindings-in-Some-clause-solutions
returns-in_ok-bindings-in-Some-clause-solutions g c =
    puts_solutions (g.B.Bindings.pairs c.args.bindings) c.requires (tree c.args.left.now) (tree c.args.right.now) (map sides c.items.result.now)
    (rw c.items.ensures (rw c.in-Some.is at c.in_ok-would_add.ensures)) (g.B.Bindings.pairs c.in_ok-bindings-in-Some.bindings) c.in_ok-bindings-in-Some.ensures

pub returns-in_ok-bindings-in-Some-clause-none : goal.returns-in_ok-bindings-in-Some-clause-none
returns-in_ok-bindings-in-Some-clause-none g c =
    puts_some (g.B.Bindings.pairs c.args.bindings) c.requires (tree c.args.left.now) (tree c.args.right.now) (map sides c.items.result.now)
    (rw c.items.ensures (rw c.in-Some.is at c.in_ok-would_add.ensures)) (record { bindings = c.in_ok-bindings-in-Some.bindings; added = c.in-Some.added })
