-- The arguments of calls: where they stand, and what naming the first ones leaves for the others.
use Rattle.std.specs.Prelude.{◌≡◌, ℕ, ◌+◌, ◌≤◌, true, List, ◌∷◌, ◌++◌, length}
use Rattle.std.specs.List.{list_all}
use Rattle.kan_terms.specs.Tree.{Tm}
use Rattle.kan_model.specs.Stores.Store.{Store}
use Rattle.kan_model.specs.Streams.Running.{Arguments, name_pairs, and_value}
use Rattle.kan_model.specs.Terms.Flat.{is_flat}
use Rattle.kan_model.specs.Programs.Goals.{Template}
use Rattle.kan_model.specs.Programs.Tables.{arguments_at}
use Rattle.kan_model.specs.Programs.Closed as programs
use Rattle.kan_model.specs.declared.program.Program.{Program}

-- the arguments at a place of a program's table
abbrev pub arguments_of : Program → ℕ → ℕ → List Template
arguments_of p at count = arguments_at (programs.templates p) (programs.tables p).arguments at count

-- so many arguments are there from a place on
abbrev pub IsPlaced : Program → ℕ → ℕ → Type 0
IsPlaced p at count = at + count ≤ length (programs.tables p).arguments

-- an argument's value and the store after it: whatever follows, naming goes on from there
pub record NamesOne (before : Store) (argument value : Tm) (after : Store) : Type 0 where
  pub goes_on : (rest : List Tm) → name_pairs before (argument ∷ rest)
      ≡ and_value value (name_pairs after rest)
  pub flat : is_flat value ≡ true
  pub above : before.counter ≤ after.counter
  pub within : after.counter ≤ before.counter + 1

-- values in front of those of the others
abbrev pub in_front : List Tm → Arguments → Arguments
in_front values rest = record { values = values ++ rest.values; store = rest.store }

-- the values of the first arguments and the store after them
pub record NamesFirst (before : Store) (arguments values : List Tm) (after : Store) : Type 0 where
  pub goes_on : (rest : List Tm) → name_pairs before (arguments ++ rest)
      ≡ in_front values (name_pairs after rest)
  pub flat : list_all is_flat values ≡ true
