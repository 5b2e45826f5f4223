-- Which stores are kept, in terms of their solutions.
use Rattle.std.specs.Prelude.{◌≡◌, ◌↔◌, true, List}
use Rattle.kan_terms.specs.Tree.{Gd}
use Rattle.kan_model.specs.Meaning.Holds.{IsSolution}
use Rattle.kan_model.specs.Programs.Scope.{is_counted}
use Rattle.kan_model.specs.Stores.Kept.{is_kept}
use Rattle.kan_model.specs.Stores.Store.{Store}

-- there is a valuation that solves a store
abbrev pub HasSolution : Store → Type 0
HasSolution st = (us : List Gd) × IsSolution st us

-- a store whose counter lies above its variables is kept exactly where it has a solution
abbrev pub KeptHasSolution : Type 0
KeptHasSolution = (st : Store) → is_counted st ≡ true → (is_kept st ≡ true) ↔ HasSolution st
