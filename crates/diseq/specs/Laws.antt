-- What disequalities that were brought up to bindings mean for ground valuations.
use Rattle.std.specs.Prelude.{◌≡◌, ◌↔◌, ℕ, true, false, List, [], ◌∷◌, ◌++◌}
use Rattle.kan_terms.specs.Tree.{Gd}
use Rattle.kan_model.specs.Stores.Unifiers.{Unifies}
use Rattle.unify_core.specs.Walking.{Pairs}
use Rattle.unify_core.specs.Cycles.{HasNoCycle}
use Rattle.unify_core.specs.Solutions.{IsSolution, AddedTo}
use Rattle.kan_terms.specs.Tree.{Tm}
use Rattle.diseq.specs.Disequalities.{Disequality, SaysAsMuch, NeverEqual, Brought, is_identical}
use Rattle.diseq.specs.Watching.{is_watchable}

-- under a ground valuation each of the disequalities holds: the sides of its equations aren't all
-- equal
abbrev pub AllDiffer : (ℕ → Gd) → List Disequality → Type 0
AllDiffer f [] = Unit {0}
AllDiffer f (es ∷ ds) = (Unifies f es → ⊥) × AllDiffer f ds

-- for ground valuations that solve the bindings: a disequality that says as much has the same equal
-- sides, one that is left out never has, and so all of the older ones hold exactly where those that
-- are left do
pub record GroundMeaning : Type 0 where
  pub as_much : (bound : Pairs) (es fs : Disequality) → SaysAsMuch bound es fs → (f : ℕ → Gd) →
      IsSolution f bound → Unifies f es ↔ Unifies f fs
  pub never : (bound : Pairs) (es : Disequality) → NeverEqual bound es → (f : ℕ → Gd) →
      IsSolution f bound → Unifies f es → ⊥
  pub all : (bound : Pairs) (old new : List Disequality) → Brought bound old new → (f : ℕ → Gd) →
      IsSolution f bound → AllDiffer f old ↔ AllDiffer f new

-- disequalities that stay as they are are brought up to any bindings; what was brought up can be
-- brought up once more, also to bindings that were added to; and two lists one after the other
pub record BringingGoesOn : Type 0 where
  pub stays : (bound : Pairs) (ds : List Disequality) → Brought bound ds ds
  pub goes_on : (older : Pairs) (added : List (Tm × Tm)) (bound : Pairs)
      (first second third : List Disequality) → AddedTo older added bound →
      Brought older first second → Brought bound second third → Brought bound first third
  pub joined : (bound : Pairs) (old new old' new' : List Disequality) → Brought bound old new →
      Brought bound old' new' → Brought bound (old ++ old') (new ++ new')

-- a disequality that is watchable isn't false
abbrev pub WatchableDiffers : Type 0
WatchableDiffers =
    (bound : Pairs) (es : Disequality) → HasNoCycle bound → is_watchable bound es ≡ true →
    is_identical bound es ≡ false
