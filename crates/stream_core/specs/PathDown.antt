-- The path down from a suspension, by the ids of those inside one another.
use Rattle.std.specs.Prelude.{◌≡◌, true, false, List, [], ◌∷◌, Option, Some, None}
use Rattle.kan_model.specs.Stores.Store as facts
use Rattle.kan_model.specs.Streams.Stream.{Thunk}
use Rattle.kan_model.specs.Each.{Each}
use Rattle.stream_core.specs.InnerSuspensions.{MayForce, has_inner, inner_of}
use Rattle.stream_core.specs.Tables.{Table, IsForce, IsKept, IsInner}
use Rattle.stream_core.specs.CodeTasks.{stack}
use Rattle.stream_core.specs.declared.streams.Stream.{Stream}

-- what comes after suspensions on the path down from a whole one, the last one first
abbrev pub next : Thunk → List Thunk → Thunk
next whole [] = whole
next whole (u ∷ us) = inner_of u

-- suspensions on a path down, the last one first: each is the one inside the one before it
abbrev pub IsPath : Thunk → List Thunk → Type 0
IsPath whole [] = Unit {0}
IsPath whole (u ∷ us) = (u ≡ next whole us) × IsPath whole us

-- ids on a path down, the last one first, and the one to which it leads
abbrev pub Leads : {I : Type 0} → (I → Option I) → I → List I → I → Type 0
Leads inner whole [] last = last ≡ whole
Leads inner whole (u ∷ us) last = (inner u ≡ Some last) × Leads inner whole us u

module _ {I : Type 0} (t : Table I) where
  -- an id may be forced, and has one inside
  abbrev pub MayForceAround : I → Type 0
  MayForceAround id = t.belongs id × MayForce t.program (t.tree id) × (has_inner (t.tree id) ≡ true)

  -- ids on the path down from a whole suspension, the last one at the end
  pub record IsPathFrom (whole : Thunk) (ids : List I) : Type 0 where
    pub path : IsPath whole (stack t.tree ids)
    pub each : Each MayForceAround ids

  -- the id that comes after them, which may be forced
  pub record IsNext (whole : Thunk) (ids : List I) (last : I) : Type 0 where
    pub belongs : t.belongs last
    pub may : MayForce t.program (t.tree last)
    pub is : t.tree last ≡ next whole (stack t.tree ids)

  -- where a path ends: at a stream that was found for its last id, or at one that has none inside
  abbrev pub EndsPath : {St : Type 0} → (St → facts.Store) → I → Option (Stream I St) → Type 0
  EndsPath means last None = (has_inner (t.tree last) ≡ false) × IsInner t None last
  EndsPath means last (Some s) = IsForce t means (t.tree last) s × IsKept t true last
