-- What is made of data as they are written, and how one way to build carries over to another.
use Rattle.std.specs.Prelude.{◌≡◌, ℕ, List, [], ◌∷◌, ◌++◌, map}
use Rattle.kan_grammar.specs.Data.Words.{Atom, Shape, Prefix}
use Rattle.kan_grammar.specs.Data.Written.{Written, Within, single, list, prefixed, close, dotted}
use Rattle.kan_grammar.specs.Data.Written.{element}
use Rattle.kan_grammar.specs.Data.Enclosing.{Build}
use Rattle.kan_grammar.specs.Data.Faults.{Reading, data_are, refused}

-- what a build makes of a datum, and of a list with elements made before what else stands in it
abbrev mutual
  pub build_datum : {D : Type 0} → Build D → Written → D
  build_datum b (single at a) = b.of_atom at a
  build_datum b (list at s inner) = build_within b at s [] inner
  build_datum b (prefixed at p d) = b.of_prefixed at p (build_datum b d)

  pub build_within : {D : Type 0} → Build D → ℕ → Shape → List D → Within → D
  build_within b start s ds (close at) = b.of_list start s ds at
  build_within b start s ds (dotted at d end) = b.of_dotted start s ds at (build_datum b d) end
  build_within b start s ds (element d inner) =
      build_within b start s (ds ++ build_datum b d ∷ []) inner

-- a map takes what one build makes to what another makes
pub record Carries {C D : Type 0} (a : Build C) (b : Build D) (f : C → D) : Type 0 where
  pub atoms : (at : ℕ) (x : Atom) → f (a.of_atom at x) ≡ b.of_atom at x
  pub lists : (at : ℕ) (s : Shape) (ds : List C) (end : ℕ) → f (a.of_list at s ds end)
      ≡ b.of_list at s (map f ds) end
  pub dotted_lists : (at : ℕ) (s : Shape) (ds : List C) (point : ℕ) (d : C) (end : ℕ) →
      f (a.of_dotted at s ds point d end) ≡ b.of_dotted at s (map f ds) point (f d) end
  pub prefixes : (at : ℕ) (p : Prefix) (d : C) → f (a.of_prefixed at p d) ≡ b.of_prefixed at p (f d)

-- the same text's reading with other data
abbrev pub map_reading : {C D : Type 0} → (C → D) → Reading C → Reading D
map_reading f (data_are ds) = data_are (map f ds)
map_reading f (refused x) = refused x
