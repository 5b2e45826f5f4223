-- Which solutions are found, and within how many pulls.
use Rattle.std.specs.Prelude.{◌≡◌, ◌⊎◌, ℕ, ◌<◌, ◌≤◌, true, List, [], ◌∷◌, ◌++◌, map, Option, Any}
use Rattle.std.specs.Prelude.{Contains}
use Rattle.std.specs.List.{list_all}
use Rattle.kan_terms.specs.Tree.{Tm, Gd}
use Rattle.kan_terms.specs.Valuations.{value_at, value}
use Rattle.kan_model.specs.Programs.Goals.{Primitive, Goal, Program, Query}
use Rattle.kan_model.specs.Stores.Store.{Store, with_prim}
use Rattle.kan_model.specs.Stores.Kept.{is_kept}
use Rattle.kan_model.specs.Streams.Stream.{Stream, one}
use Rattle.kan_model.specs.Streams.Running.{run, assert}
use Rattle.kan_model.specs.Programs.Scope.{all_below, is_counted}
use Rattle.kan_model.specs.Meaning.Holds.{holds_at, IsSolution, BeginsWith}
use Rattle.kan_model.specs.Meaning.Derivations.{Derivation, derives, IsRunSolution}
use Rattle.kan_model.specs.Streams.Pulls.{pulls_for}
use Rattle.kan_model.specs.Streams.Taking.{Ending, Taken, take, take_query}
use Rattle.pull_bounds.specs.Coming.{ComesWithin}

-- a store with a solution is kept
abbrev pub SolvedIsKept : Type 0
SolvedIsKept = (st : Store) (us : List Gd) → IsSolution st us → is_kept st ≡ true

-- a primitive that holds of a solution's values is added to the store
abbrev pub HoldingIsAdded : Type 0
HoldingIsAdded =
    (st : Store) (us : List Gd) (p : Primitive Tm) → IsSolution st us → holds_at us p ≡ true →
    assert st p ≡ one (with_prim st p)

-- a store with a solution that begins with these values
abbrev pub IsSolvedFrom : List Gd → Store → Type 0
IsSolvedFrom us st = (vs : List Gd) × IsSolution st vs × BeginsWith vs us

-- a store's counter lies above all its variables, and above those of an environment
abbrev pub StandsAbove : Store → List Tm → Type 0
StandsAbove st env = (is_counted st ≡ true) × (list_all (all_below st.counter) env ≡ true)

-- a derivation at the values of a solution leads to a store with a solution that begins with this
-- one, within the derivation's pulls
abbrev pub DerivationIsFound : Type 0
DerivationIsFound =
    (program : Program) (g : Goal) (env : List Tm) (st : Store) (us : List Gd) (d : Derivation) →
    StandsAbove st env → IsSolution st us → derives program g (map (value us) env) d ≡ true →
    (found : Store) × ComesWithin program (pulls_for program g d) (run g env st) found
    × IsSolvedFrom us found

-- a store has a solution whose variable 0 is this term
abbrev pub IsSolvedAt : Gd → Store → Type 0
IsSolvedAt u st = (us : List Gd) × IsSolution st us × (value_at us 0 ≡ u)

-- such a store was taken
abbrev pub IsTaken : Gd → Taken → Type 0
IsTaken u t = Any (IsSolvedAt u) t.stores

-- what ended before so many pulls: the limit of answers, or a smaller fuel
abbrev pub IsCutBefore : ℕ → ℕ → Ending → Type 0
IsCutBefore pulls fuel e = (e ≡ Ending.limit) ⊎ ((e ≡ Ending.fuel) × (fuel < pulls))

-- a store that comes of a stream within some pulls is taken, but for the limit or the fuel
abbrev pub WhatComesIsTaken : Type 0
WhatComesIsTaken =
    (program : Program) (pulls fuel : ℕ) (s : Stream) (limit : Option ℕ) (st : Store) →
    ComesWithin program pulls s st →
    Contains (take program fuel s limit).stores st
    ⊎ IsCutBefore pulls fuel (take program fuel s limit).ending

-- what is taken with some fuel comes first with more
abbrev pub MoreFuelAddsBehind : Type 0
MoreFuelAddsBehind =
    (program : Program) (fuel greater : ℕ) (s : Stream) (limit : Option ℕ) → fuel ≤ greater →
    (later : List Store)
    × ((take program greater s limit).stores ≡ (take program fuel s limit).stores ++ later)

-- no solution is missed but for the limit, or for a fuel below its derivation's pulls
abbrev pub NoneIsMissed : Type 0
NoneIsMissed =
    (program : Program) (q : Query) (fuel : ℕ) (u : Gd) (d : Derivation) →
    derives program q.goal (u ∷ []) d ≡ true →
    IsTaken u (take_query program fuel q)
    ⊎ IsCutBefore (pulls_for program q.goal d) fuel (take_query program fuel q).ending

-- a run that comes to its end has every solution
abbrev pub EndHasAll : Type 0
EndHasAll =
    (program : Program) (q : Query) (fuel : ℕ) (u : Gd) → (take_query program fuel q).ending
    ≡ Ending.end → IsRunSolution program q.goal u → IsTaken u (take_query program fuel q)
