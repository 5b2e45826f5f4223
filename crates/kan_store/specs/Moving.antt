-- What becomes of types and absences when bindings are added: what stands on each variable that was
-- bound goes over to its term.
use Rattle.std.specs.Prelude.{◌≡◌, ℕ, Bool, true, false, List, [], ◌∷◌, Option, Some, None}
use Rattle.kan_terms.specs.Tree.{Tree, Tm}
use Rattle.unify_core.specs.Walking.{Pairs, walk, full}
use Rattle.type_absence.specs.Types.{Types, MovesTypes}
use Rattle.type_absence.specs.Absent.{TagsOf, GivesTags}

-- the types with those of variables that were bound moved, pair by pair; none where one of them
-- can't be
pub data TypesMove (bound : Pairs) : Types → List (Tm × Tm) → Option Types → Type 0 where
  all_moved : {old new : Types} → ((v : ℕ) → new v ≡ old v) → TypesMove bound old [] (Some new)
  moved_one : {old mid : Types} {x : ℕ} {t : Tm} {more : List (Tm × Tm)} {r : Option Types} →
      MovesTypes old (old x) (walk bound t) (Some mid) → TypesMove bound mid more r →
      TypesMove bound old ((Tree.leaf x, t) ∷ more) r
  not_moved : {old : Types} {x : ℕ} {t : Tm} {more : List (Tm × Tm)} →
      MovesTypes old (old x) (walk bound t) None →
      TypesMove bound old ((Tree.leaf x, t) ∷ more) None

-- the same of absences
pub data TagsMove (bound : Pairs) : TagsOf → List (Tm × Tm) → Option TagsOf → Type 0 where
  all_moved : {old new : TagsOf} → ((v : ℕ) → new v ≡ old v) → TagsMove bound old [] (Some new)
  moved_one : {old mid : TagsOf} {x : ℕ} {t : Tm} {more : List (Tm × Tm)} {r : Option TagsOf} →
      GivesTags old (old x) (full bound t) (Some mid) → TagsMove bound mid more r →
      TagsMove bound old ((Tree.leaf x, t) ∷ more) r
  not_moved : {old : TagsOf} {x : ℕ} {t : Tm} {more : List (Tm × Tm)} →
      GivesTags old (old x) (full bound t) None → TagsMove bound old ((Tree.leaf x, t) ∷ more) None

-- a pair binds a variable
abbrev pub binds_variable : Tm × Tm → Bool
binds_variable (Tree.leaf x, t) = true
binds_variable _ = false
