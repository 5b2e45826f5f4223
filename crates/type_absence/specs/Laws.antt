-- Types and absences have exactly the solutions of what was added to them.
use Rattle.std.specs.Prelude.{◌≡◌, ◌↔◌, ℕ, true, false, List, [], ◌∷◌, Option, Some, None}
use Rattle.kan_terms.specs.Tree.{Tm, Gd, fill, has_symbol}
use Rattle.kan_model.specs.declared.prims.Kind.{Kind}
use Rattle.unify_core.specs.Cycles.{HasNoCycle}
use Rattle.unify_core.specs.Solutions.{IsSolution}
use Rattle.unify_core.specs.Walking.{Pairs, walk, full}
use Rattle.type_absence.specs.Types.{Types, GivesTypes, MovesTypes, Typed, is_of}
use Rattle.type_absence.specs.Absent.{TagsOf, GivesTag, GivesTags, Free}
use Rattle.type_absence.specs.Tags.{with_tags, is_once}

-- f solves what was made of a list of demands: exactly where it solved that before and meets the
-- new one, and never where nothing was made
abbrev pub Makes : {X : Type 0} → (X → Type 0) → Type 0 → Option X → Type 0
Makes Solved Wanted None = Wanted → ⊥
Makes Solved Wanted (Some new) = Solved new ↔ Wanted

-- the type of a term under a solution of the bindings; a variable's type goes over to its term with
-- nothing lost or added
pub record TypesSolve : Type 0 where
  pub added : (bound : Pairs) (f : ℕ → Gd) (old : Types) (kind : Kind) (t : Tm)
      (new : Option Types) → HasNoCycle bound → IsSolution f bound →
      GivesTypes old kind (walk bound t) new →
      Makes (Typed f) (Typed f old × (is_of kind (fill f t) ≡ true)) new
  pub moved : (bound : Pairs) (f : ℕ → Gd) (old : Types) (v : ℕ) (t : Tm) (new : Option Types) →
      HasNoCycle bound → IsSolution f bound → f v ≡ fill f t →
      MovesTypes old (old v) (walk bound t) new → Makes (Typed f) (Typed f old) new

-- a tag that stands nowhere in a term under a solution of the bindings; a variable's tags go over
-- to its term with nothing lost or added
pub record AbsencesSolve : Type 0 where
  pub added : (bound : Pairs) (f : ℕ → Gd) (old : TagsOf) (tag : ℕ) (t : Tm) (new : Option TagsOf) →
      IsSolution f bound →
      GivesTag old tag (full bound t) new →
      Makes (Free f) (Free f old × (has_symbol tag (fill f t) ≡ false)) new
  pub moved : (bound : Pairs) (f : ℕ → Gd) (old : TagsOf) (v : ℕ) (t : Tm) (new : Option TagsOf) →
      IsSolution f bound → f v ≡ fill f t →
      GivesTags old (old v) (full bound t) new → Makes (Free f) (Free f old) new

-- several tags are put one after the other, and none where one of them is refused; a list in which
-- each tag stands once stays so
pub record OneByOne : Type 0 where
  pub no_tag : (old new : TagsOf) (t : Tm) → GivesTags old [] t (Some new)
      ↔ ((v : ℕ) → new v ≡ old v)
  pub first_refused : (old : TagsOf) (tag : ℕ) (more : List ℕ) (t : Tm) → GivesTag old tag t None →
      GivesTags old (tag ∷ more) t None
  pub then_others : (old next : TagsOf) (tag : ℕ) (more : List ℕ) (t : Tm) (new : Option TagsOf) →
      GivesTag old tag t (Some next) → GivesTags next more t new ↔ GivesTags old (tag ∷ more) t new
  pub stays_once : (more tags : List ℕ) → is_once tags ≡ true → is_once (with_tags more tags) ≡ true
