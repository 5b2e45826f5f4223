-- The laws on what stores and answers mean, on closed examples.
use Rattle.std.proofs.Common.{◌≡◌, ◌≤◌, ℕ, true, false, [], ◌∷◌, refl, sym, ◌∙◌, true≢false, arith, Contains}
use Rattle.kan_terms.specs.Table.{Table}
use Rattle.kan_terms.specs.Tree.{Tree, Gd}
use Rattle.kan_model.specs.Answers.AnswerText.{answer_of}
use Rattle.kan_model.specs.Answers.Covers.{Covers}
use Rattle.kan_model.specs.Meaning.Derivations.{Derivation, derives, IsRunSolution}
use Rattle.kan_model.specs.Meaning.Holds.{IsSolution}
use Rattle.kan_model.specs.Programs.Goals.{Primitive}
use Rattle.kan_model.specs.Stores.Kept.{is_kept}
use Rattle.kan_model.specs.Stores.Solve.{solve_by, rounds, steps}
use Rattle.kan_model.specs.Stores.Store.{Store}
use Rattle.kan_meaning.specs.KeptStores.{HasSolution}
use Rattle.kan_meaning.proofs.KeptLaws.{kept_has_solution}
use Rattle.kan_meaning.proofs.Instances.SolvedInstances.{instances_are_values}

abbrev table : Table
table = record { symbols = []; strings = [] }

-- variable 0 isn't the symbol 1
abbrev differs : Store
differs = record { prims = Primitive.differ (Tree.leaf 0) (Tree.sym 1) ∷ []; counter = 1 }

-- it is, and isn't
abbrev clashes : Store
clashes = record { prims = Primitive.same (Tree.leaf 0) (Tree.sym 1) ∷ Primitive.differ (Tree.leaf 0) (Tree.sym 1) ∷ []; counter = 1 }

-- the symbol 0 solves the first one, so it is kept
solved : IsSolution differs (Tree.sym 0 ∷ [])
solved = (refl, refl)

kept_by_law : is_kept differs ≡ true
kept_by_law = (kept_has_solution differs refl).1 (Tree.sym 0 ∷ [], solved)

-- the second one isn't kept, so nothing solves it
not_kept : is_kept clashes ≡ false
unfolding solve_by rounds steps
not_kept = refl

no_solution : HasSolution clashes → ⊥
no_solution h = true≢false (sym ((kept_has_solution clashes refl).1 h) ∙ not_kept)

-- the answer of the first one covers the symbol 0, and not the symbol 1
covers_another : Covers (answer_of table differs) (Tree.sym 0)
covers_another = (instances_are_values table differs (Tree.sym 0) kept_by_law refl (omega arith)).1 (Tree.sym 0 ∷ [], solved, refl)
