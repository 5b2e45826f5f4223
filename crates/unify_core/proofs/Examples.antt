-- The definitions, computed on examples.
use Rattle.std.specs.Prelude.{◌≡◌, [], ◌∷◌, Some, refl}
use Rattle.std.proofs.Common.{arith}
use Rattle.kan_terms.specs.Tree.{Tree}
use Rattle.kan_model.specs.Stores.Solve.{solve, solve_by, rounds, steps}
use Rattle.unify_core.specs.Walking.{Pairs, walk, full}
use Rattle.unify_core.specs.Cycles.{HasNoCycle}
use Rattle.unify_core.specs.Solutions.{bindings_solved}

-- variable 0 is variable 1, which is the pair of variable 2 and variable 3, and variable 2 is the symbol 7; the first was bound first
abbrev chain : Pairs
chain = (2, Tree.sym 7) ∷ (1, Tree.pair (Tree.leaf 2) (Tree.leaf 3)) ∷ (0, Tree.leaf 1) ∷ []

example-walk : walk chain (Tree.leaf 0) ≡ Tree.pair (Tree.leaf 2) (Tree.leaf 3)
example-walk = refl

example-stays : walk chain (Tree.leaf 3) ≡ Tree.leaf 3
example-stays = refl

example-full : full chain (Tree.leaf 0) ≡ Tree.pair (Tree.sym 7) (Tree.leaf 3)
example-full = refl

-- the solver's replacement has the same terms
example-solved : solve (bindings_solved chain)
    ≡ Some (record { var = 0; by = Tree.pair (Tree.sym 7) (Tree.leaf 3) } ∷ record { var = 1; by = Tree.pair (Tree.sym 7) (Tree.leaf 3) } ∷ record { var = 2; by = Tree.sym 7 } ∷ [])
unfolding solve_by rounds steps
example-solved = refl

-- a variable that stands in its own term, and two that stand in each other's, are a cycle
example-cycle : HasNoCycle ((0, Tree.pair Tree.nil (Tree.leaf 0)) ∷ []) → ⊥
example-cycle h = omega (arith, h.falls 0 0 (Tree.pair Tree.nil (Tree.leaf 0)) refl refl)

example-two : HasNoCycle ((1, Tree.leaf 0) ∷ (0, Tree.leaf 1) ∷ []) → ⊥
example-two h = omega (arith, h.falls 0 1 (Tree.leaf 1) refl refl, h.falls 1 0 (Tree.leaf 0) refl refl)
