-- What the stream of a goal finds of the solutions of its store.
use Rattle.std.specs.Prelude.{◌≡◌, ◌≤◌, ℕ, true, List, length, map}
use Rattle.kan_terms.specs.Tree.{Tm, Gd}
use Rattle.kan_terms.specs.Valuations.{value}
use Rattle.kan_model.specs.Programs.Goals.{Goal, Program}
use Rattle.kan_model.specs.Stores.Store.{Store}
use Rattle.kan_model.specs.Streams.Stream.{Stream}
use Rattle.kan_model.specs.Streams.Taking.{stores_within}
use Rattle.kan_model.specs.Streams.Pulls.{pulls_for, answers_within}
use Rattle.kan_model.specs.Meaning.Holds.{IsSolution}
use Rattle.kan_model.specs.Meaning.Derivations.{Derivation, derives}
use Rattle.pull_bounds.specs.Coming.{ComesWithin}
use Rattle.pull_bounds.specs.Finding.{IsSolvedFrom}

-- A derivation of the goal at the values of a solution of the store leads to a store with a
-- solution that begins with this one, and it comes within the derivation's pulls.
abbrev pub FindsSolutions : Program → Goal → List Tm → Store → Stream → Type 0
FindsSolutions program g env st s =
    (us : List Gd) (d : Derivation) → IsSolution st us → derives program g (map (value us) env) d
    ≡ true →
    (found : Store) × ComesWithin program (pulls_for program g d) s found × IsSolvedFrom us found

-- within so many pulls there are no more answers than are counted for the goal
abbrev pub GivesFew : Program → Goal → Stream → Type 0
GivesFew program g s =
    (pulls : ℕ) → length (stores_within program pulls s) ≤ answers_within program g pulls
