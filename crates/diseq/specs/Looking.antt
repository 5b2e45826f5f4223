-- What becomes of what variables watch where disequalities are looked at again.
use Rattle.std.specs.Prelude.{◌≡◌, ◌⊎◌, ℕ, Bool, true, false, ◌&&◌, ◌||◌, not, eqb, List, []}
use Rattle.std.specs.Prelude.{◌∷◌, ◌++◌, Option, Some, None, if◌then◌else◌}
use Rattle.std.specs.List.{list_any}
use Rattle.kan_terms.specs.Tree.{Tm}
use Rattle.unify_core.specs.Walking.{Pairs}
use Rattle.diseq.specs.Among.{Among}
use Rattle.diseq.specs.Disequalities.{Disequality, is_identical}
use Rattle.diseq.specs.Kept.{Watchers, AreKept}
use Rattle.diseq.specs.Watching.{is_watched_by, is_watchable, watches, is_woken}

-- a disequality was put behind those that a variable watches
abbrev pub IsPut : Watchers → ℕ → Disequality → Watchers → Type 0
IsPut old x es new =
    (y : ℕ) → new y ≡ (if eqb y x then old y ++ es ∷ [] else old y)

-- the variable, if there is one, is this one
abbrev pub may_be_same : ℕ → Option ℕ → Bool
may_be_same x None = false
may_be_same x (Some y) = eqb x y

-- the variable that watches a disequality has it too, if there is one, and nothing else changed
pub record IsGiven (old : Watchers) (es : Disequality) (new : Watchers) : Type 0 where
  pub listed : (x : ℕ) → is_watched_by x es ≡ true → Among es (new x)
  pub more : (x : ℕ) (fs : Disequality) → Among fs (old x) → Among fs (new x)
  pub only : (x : ℕ) (fs : Disequality) → Among fs (new x) → Among fs (old x) ⊎ (fs ≡ es)

-- what a variable watches was taken from it, or some of that
pub record IsTaken (old : Watchers) (x : ℕ) (new : Watchers) : Type 0 where
  pub others : (y : ℕ) → eqb y x ≡ false → (fs : Disequality) → Among fs (old y) →
      Among fs (new y)
  pub fewer : (y : ℕ) (fs : Disequality) → Among fs (new y) → Among fs (old y)

-- a test that each watchable disequality passes
abbrev pub IsWeaker : Pairs → (Disequality → Bool) → Type 0
IsWeaker bound test = (es : Disequality) → is_watchable bound es ≡ true → test es ≡ true

-- Those that waited behind others were looked at. At false one is identical.
abbrev pub LooksAt : Pairs → List Disequality → Watchers → Watchers → Bool → Type 0
LooksAt bound looked old new true =
    (test : Disequality → Bool) → IsWeaker bound test → (asserted rest : List Disequality) →
    AreKept bound test asserted (rest ++ looked) old → AreKept bound test asserted rest new
LooksAt bound looked old new false =
    (test : Disequality → Bool) → IsWeaker bound test → (asserted rest : List Disequality) →
    AreKept bound test asserted (rest ++ looked) old → list_any (is_identical bound) asserted ≡ true

-- the disequality isn't watched by the term, or it is watchable
abbrev pub is_settled : Pairs → Tm → Disequality → Bool
is_settled bound t es = not (watches t es) || is_watchable bound es

-- the disequality is woken by these pairs, or it is watchable
abbrev pub is_fine : Pairs → List (Tm × Tm) → Disequality → Bool
is_fine bound pairs es = is_woken pairs es || is_watchable bound es

-- what passed a test passes another one too, or one that was asserted is identical
abbrev pub Settles : Pairs → (Disequality → Bool) → Watchers → Watchers → Bool → Type 0
Settles bound also old new true =
    (test : Disequality → Bool) → IsWeaker bound test → (asserted : List Disequality) →
    AreKept bound test asserted [] old → AreKept bound (λ es. test es && also es) asserted [] new
Settles bound also old new false =
    (test : Disequality → Bool) → IsWeaker bound test → (asserted : List Disequality) →
    AreKept bound test asserted [] old → list_any (is_identical bound) asserted ≡ true

-- those that added pairs wake were looked at, and then all are watchable, or one that was asserted
-- is identical
abbrev pub SettlesAll : Pairs → List (Tm × Tm) → Watchers → Watchers → Bool → Type 0
SettlesAll bound added old new true =
    (asserted : List Disequality) → AreKept bound (is_fine bound added) asserted [] old →
    AreKept bound (is_watchable bound) asserted [] new
SettlesAll bound added old new false =
    (asserted : List Disequality) → AreKept bound (is_fine bound added) asserted [] old →
    list_any (is_identical bound) asserted ≡ true
