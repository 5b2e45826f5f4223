-- What the stores mean that a run takes: their solutions are solutions of the run.
use Rattle.std.specs.Prelude.{ℕ, List, Contains}
use Rattle.kan_terms.specs.Tree.{Gd}
use Rattle.kan_terms.specs.Valuations.{value_at}
use Rattle.kan_model.specs.Meaning.Derivations.{IsRunSolution}
use Rattle.kan_model.specs.Meaning.Holds.{IsSolution}
use Rattle.kan_model.specs.Programs.Goals.{Program, Query}
use Rattle.kan_model.specs.Stores.Store.{Store}
use Rattle.kan_model.specs.Streams.Taking.{take_query}

-- where a valuation solves a store that a run takes, the run's goal has a derivation at the value
-- of variable 0
abbrev pub TakenAreSolutions : Type 0
TakenAreSolutions =
    (program : Program) (q : Query) (fuel : ℕ) (st : Store) (us : List Gd) →
    Contains (take_query program fuel q).stores st → IsSolution st us →
    IsRunSolution program q.goal (value_at us 0)
