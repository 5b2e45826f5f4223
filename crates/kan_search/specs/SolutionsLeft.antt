-- What a search and its batches keep of the solutions of their run.
use Rattle.std.specs.Prelude.{◌≡◌, ◌⊎◌, ℕ, true, List, [], ◌∷◌, Any}
use Rattle.kan_terms.specs.Tree.{Gd}
use Rattle.kan_model.specs.Meaning.Derivations.{Derivation, derives}
use Rattle.kan_model.specs.Programs.Goals.{Program, Query}
use Rattle.kan_model.specs.Stores.Store.{Store}
use Rattle.kan_model.specs.Streams.Pulls.{pulls_for}
use Rattle.kan_model.specs.Streams.Taking.{Taken}
use Rattle.pull_bounds.specs.Finding.{IsCutBefore, IsSolvedAt, IsTaken}

-- Of what is taken of a run no solution is missing, but for the limit, or a fuel below the pulls of
-- the solution's derivation.
abbrev pub MissesNone : Program → Query → ℕ → Taken → Type 0
MissesNone program q fuel t =
    (u : Gd) (d : Derivation) → derives program q.goal (u ∷ []) d ≡ true →
    IsTaken u t ⊎ IsCutBefore (pulls_for program q.goal d) fuel t.ending

-- Each solution that was still to come is in a batch or comes behind it, and the run's end stays.
pub record KeepsSolutions (before : Taken) (answers : List Store) (after : Taken) : Type 0 where
  pub each : (u : Gd) → IsTaken u before → Any (IsSolvedAt u) answers ⊎ IsTaken u after
  pub ending : after.ending ≡ before.ending
