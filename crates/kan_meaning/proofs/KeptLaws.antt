-- A store is kept exactly where it has a solution.
use Rattle.std.proofs.Common.{◌≡◌, true, Option, Some, None, refl, sym}
use Rattle.std.proofs.lemmas.Bool.{true≢false}
use Rattle.kan_model.specs.Programs.Scope.{is_counted}
use Rattle.kan_model.specs.Stores.Kept.{holds_with, is_kept}
use Rattle.kan_model.specs.Stores.Solve.{Replacement, left_first, solve_store}
use Rattle.kan_model.specs.Stores.Store.{Store, equations}
use Rattle.kan_model.proofs.Solving.UnifierLaws.{answer_unifies}
use Rattle.kan_meaning.specs.KeptStores.{HasSolution, KeptHasSolution}
use Rattle.pull_bounds.proofs.KeptStores.{solved_is_kept}
use Rattle.kan_meaning.proofs.Instances.SolvedLaws.{bound_all, solution, solved_under}

kept_is_solved : (st : Store) → is_counted st ≡ true → is_kept st ≡ true → HasSolution st
kept_is_solved st counted kept = by (solve_store st) refl kept
  where
    by : (o : Option Replacement) → solve_store st ≡ o → holds_with st.prims o ≡ true → HasSolution st
    by None found held = absurd (true≢false (sym held))
    by (Some s) found held =
        (solution st.prims s (bound_all s st.prims) st.counter, solved_under st.prims st.counter s counted (answer_unifies left_first (equations st.prims) s found) held)

pub kept_has_solution : KeptHasSolution
kept_has_solution st counted = (kept_is_solved st counted, λ (us, solves). solved_is_kept st us solves)
