-- The parts of a solved store, and what each call makes of them.
use Rattle.std.specs.Prelude.{◌≡◌, ℕ, true, false, List, [], ◌∷◌, ◌++◌, Option, Some, None}
use Rattle.std.specs.List.{list_any}
use Rattle.kan_terms.specs.Tree.{Tm, term_eq}
use Rattle.kan_model.specs.Stores.Store.{Store, Equation}
use Rattle.kan_model.specs.Stores.Kept.{is_kept}
use Rattle.kan_model.specs.declared.prims.Kind.{Kind}
use Rattle.kan_model.specs.declared.prims.Kind.TheVariants.{Symbol, Number, Text}
use Rattle.kan_model.specs.Programs.Goals.{Primitive}
use Rattle.unify_core.specs.Cycles.{HasNoCycle}
use Rattle.unify_core.specs.Walking.{Pairs, walk, full}
use Rattle.unify_core.specs.Solutions.{AddedTo, equation}
use Rattle.unify_core.specs.Unifying.{Unifying}
use Rattle.unify_core.specs.Laws.{added_equations}
use Rattle.type_absence.specs.Types.{Types, GivesTypes}
use Rattle.type_absence.specs.Absent.{TagsOf, GivesTag}
use Rattle.diseq.specs.Disequalities.{Disequality, Brought, is_identical}
use Rattle.diseq.specs.Kept.{AreWatched, Disequalities}
use Rattle.kan_store.specs.InStep.{InStep}
use Rattle.kan_store.specs.Moving.{TypesMove, TagsMove}

-- bindings, types, absences and disequalities
pub record Parts : Type 0 where
  pub bound : Pairs
  pub types : Types
  pub tags : TagsOf
  pub lists : Disequalities

abbrev pub AreInStep : Parts → Store → Type 0
AreInStep parts st = InStep parts.bound parts.types parts.tags parts.lists st

-- what a call makes: nothing where the store isn't kept, and else parts that are known to be in
-- step with it
abbrev pub KnownToMake : Store → Option Parts → Type 0
KnownToMake st None = is_kept st ≡ false
KnownToMake st (Some parts) = ∥ AreInStep parts st ∥₁

-- two parts say the same
pub record SameParts (old new : Parts) : Type 0 where
  pub bound : new.bound ≡ old.bound
  pub types : (v : ℕ) → new.types v ≡ old.types v
  pub tags : (v : ℕ) → new.tags v ≡ old.tags v
  pub asserted : new.lists.asserted ≡ old.lists.asserted
  pub watching : (v : ℕ) → new.lists.watching v ≡ old.lists.watching v

-- The parts with an equation more: its bindings are added, types and absences go over to the terms
-- of the variables that were bound, and the
-- disequalities are watched under the bindings. There are none where one of these steps can't be
-- made.
pub data Equated (old : Parts) (a b : Tm) : Option Parts → Type 0 where
  no_unifier : Unifying old.bound (equation a b ∷ []) None → Equated old a b None
  no_type : {added : List (Tm × Tm)} {bound : Pairs} →
      Unifying old.bound (equation a b ∷ []) (Some added) → AddedTo old.bound added bound →
      HasNoCycle bound →
      TypesMove bound old.types added None → Equated old a b None
  no_absence : {added : List (Tm × Tm)} {bound : Pairs} →
      Unifying old.bound (equation a b ∷ []) (Some added) → AddedTo old.bound added bound →
      HasNoCycle bound →
      TagsMove bound old.tags added None → Equated old a b None
  no_difference : {added : List (Tm × Tm)} {bound : Pairs} →
      Unifying old.bound (equation a b ∷ []) (Some added) → AddedTo old.bound added bound →
      HasNoCycle bound →
      list_any (is_identical bound) old.lists.asserted ≡ true → Equated old a b None
  equated : {added : List (Tm × Tm)} {new : Parts} →
      Unifying old.bound (equation a b ∷ []) (Some added) → AddedTo old.bound added new.bound →
      HasNoCycle new.bound →
      TypesMove new.bound old.types added (Some new.types) →
      TagsMove new.bound old.tags added (Some new.tags) →
      list_any (is_identical new.bound) old.lists.asserted ≡ false →
      new.lists.asserted ≡ old.lists.asserted →
      AreWatched new.bound new.lists.asserted new.lists.watching → Equated old a b (Some new)

-- disequalities as variables watch them under bindings that were made; there are none where one of
-- them is false by now
abbrev pub BroughtUp : Pairs → Disequalities → Option Disequalities → Type 0
BroughtUp bound lists None = list_any (is_identical bound) lists.asserted ≡ true
BroughtUp bound lists (Some new) =
    (list_any (is_identical bound) lists.asserted ≡ false) × (new.asserted ≡ lists.asserted)
    × AreWatched bound new.asserted new.watching

-- the parts where types and absences went over from variables that were bound to their terms, and
-- the disequalities are watched under the bindings
pub data Carried (old : Parts) (added : List (Tm × Tm)) : Option Parts → Type 0 where
  types_clash : TypesMove old.bound old.types added None → Carried old added None
  tags_clash : TagsMove old.bound old.tags added None → Carried old added None
  one_same : BroughtUp old.bound old.lists None → Carried old added None
  carried : {new : Parts} → new.bound ≡ old.bound →
      TypesMove old.bound old.types added (Some new.types) →
      TagsMove old.bound old.tags added (Some new.tags) →
      BroughtUp old.bound old.lists (Some new.lists) → Carried old added (Some new)

-- the parts with a type more
pub data Typing (old : Parts) (kind : Kind) (t : Tm) : Option Parts → Type 0 where
  not_typed : GivesTypes old.types kind (walk old.bound t) None → Typing old kind t None
  typed : {types : Types} → GivesTypes old.types kind (walk old.bound t) (Some types) →
      Typing old kind t (Some (record old { types = types }))

-- the parts with an absence more
pub data Keeping (old : Parts) (tag : ℕ) (t : Tm) : Option Parts → Type 0 where
  not_kept : GivesTag old.tags tag (full old.bound t) None → Keeping old tag t None
  kept : {tags : TagsOf} → GivesTag old.tags tag (full old.bound t) (Some tags) →
      Keeping old tag t (Some (record old { tags = tags }))

-- the parts with a disequality more
pub data Differing (old : Parts) (a b : Tm) : Option Parts → Type 0 where
  identical : term_eq (full old.bound a) (full old.bound b) ≡ true → Differing old a b None
  differs : {lists : Disequalities} → term_eq (full old.bound a) (full old.bound b) ≡ false →
      Brought old.bound (old.lists.asserted ++ (equation a b ∷ []) ∷ []) lists.asserted →
      AreWatched old.bound lists.asserted lists.watching →
      Differing old a b (Some (record old { lists = lists }))

-- what is left of disequalities, each solved anew
pub data Resolved (bound : Pairs) : List Disequality → List (List Equation) → Type 0 where
  none_left : Resolved bound [] []
  still : {es : Disequality} {more : List Disequality} {added : List (Tm × Tm)}
      {lists : List (List Equation)} →
      Unifying bound es (Some added) → Resolved bound more lists →
      Resolved bound (es ∷ more) (added_equations added ∷ lists)
  gone : {es : Disequality} {more : List Disequality} {lists : List (List Equation)} →
      Unifying bound es None → Resolved bound more lists → Resolved bound (es ∷ more) lists

-- the parts with a primitive more
abbrev pub Adding : Parts → Primitive Tm → Option Parts → Type 0
Adding old (Primitive.same a b) r = Equated old a b r
Adding old (Primitive.differ a b) r = Differing old a b r
Adding old (Primitive.symbol t) r = Typing old Symbol t r
Adding old (Primitive.number t) r = Typing old Number t r
Adding old (Primitive.text t) r = Typing old Text t r
Adding old (Primitive.absent tag t) r = Keeping old tag t r
