-- How asserted disequalities are kept under bindings: by what variables watch.
use Rattle.std.specs.Prelude.{◌≡◌, ℕ, Bool, true, List, []}
use Rattle.unify_core.specs.Walking.{Pairs}
use Rattle.diseq.specs.Among.{Among}
use Rattle.diseq.specs.Disequalities.{Disequality, SaysAsMuch, NeverEqual}
use Rattle.diseq.specs.Watching.{is_watched_by, is_watchable}

-- for each variable, disequalities that it watches
abbrev pub Watchers : Type 0
Watchers = ℕ → List Disequality

-- disequalities as they were when they were asserted, and what variables watch
pub record Disequalities : Type 0 where
  pub asserted : List Disequality
  pub watching : Watchers

-- Under bindings a disequality is kept: it always holds, or one that says as much waits to be
-- looked at, or a variable watches one that says as much and passes a test.
pub data IsKept (bound : Pairs) (test : Disequality → Bool) (waiting : List Disequality)
    (watching : Watchers) (es : Disequality) : Type 0 where
  holds : NeverEqual bound es → IsKept bound test waiting watching es
  waits : (fs : Disequality) → Among fs waiting → SaysAsMuch bound es fs →
      IsKept bound test waiting watching es
  watched : (x : ℕ) (fs : Disequality) → Among fs (watching x) → is_watched_by x fs ≡ true →
      test fs ≡ true → SaysAsMuch bound es fs → IsKept bound test waiting watching es

-- a disequality says as much as one that was asserted
pub record StandsFor (bound : Pairs) (asserted : List Disequality) (fs : Disequality) : Type 0 where
  pub es : Disequality
  pub among : Among es asserted
  pub says : SaysAsMuch bound es fs

-- all asserted disequalities are kept, and what waits or is watched stands for one of them
pub record AreKept (bound : Pairs) (test : Disequality → Bool) (asserted waiting : List Disequality)
    (watching : Watchers) : Type 0 where
  pub kept : (es : Disequality) → Among es asserted → IsKept bound test waiting watching es
  pub waits : (fs : Disequality) → Among fs waiting → StandsFor bound asserted fs
  pub stands : (x : ℕ) (fs : Disequality) → Among fs (watching x) → StandsFor bound asserted fs

-- each asserted disequality always holds, or a variable watches a watchable one that says as much
abbrev pub AreWatched : Pairs → List Disequality → Watchers → Type 0
AreWatched bound asserted watching =
    ∥ AreKept bound (is_watchable bound) asserted [] watching ∥₁
