use Rattle.std.proofs.Common.{◌≡◌, map}
use Rattle.kan_model.specs.Stores.Solve.{solve_by}
use Rattle.kan_solving.specs.Solving.{replaced_by, put_all_first, on_stack}
use Rattle.kan_solving.proofs.SolvingSteps.{steps_for}
use Rattle.kan_solving.proofs.solving.solve.Given as goal

-- the replacements made so far, in front of the answer of the equations that are left, are the whole answer
abbrev pub invariant-loop-given : goal.invariant-loop-given
invariant-loop-given g l =
    put_all_first (map replaced_by l.made.items) (solve_by (g.O.Order.left l.order) (on_stack l.pending.items))
    ≡ solve_by (g.O.Order.left l.order) (on_stack l.fn.pending.items)

abbrev pub decreases-loop-given : goal.decreases-loop-given
decreases-loop-given g l = steps_for (g.O.Order.left l.order) (on_stack l.pending.items)
