-- Suspensions inside one another, down to one that has none inside.
use Rattle.std.specs.Prelude.{◌≡◌, ℕ, suc, ◌≤◌, ◌^◌, Bool, true, false, Option, Some, None}
use Rattle.kan_model.specs.Programs.Goals.{Program}
use Rattle.kan_model.specs.Streams.Stream.{Thunk}
use Rattle.kan_model.specs.Streams.Bounds.{Fits, top}
use Rattle.stream_core.specs.Tables.{Table, IsInner}

-- whether a suspension has one inside
abbrev pub has_inner : Thunk → Bool
has_inner (Thunk.call r args st) = false
has_inner (Thunk.pause g env st) = false
has_inner (Thunk.swap t i) = true
has_inner (Thunk.bind g env i) = true

-- the one inside, and the suspension itself where there is none
abbrev pub inner_of : Thunk → Thunk
inner_of (Thunk.call r args st) = Thunk.call r args st
inner_of (Thunk.pause g env st) = Thunk.pause g env st
inner_of (Thunk.swap t i) = i
inner_of (Thunk.bind g env i) = i

-- how many suspensions are inside one another
abbrev pub depth : Thunk → ℕ
depth (Thunk.call r args st) = 0
depth (Thunk.pause g env st) = 0
depth (Thunk.swap t i) = suc (depth i)
depth (Thunk.bind g env i) = suc (depth i)

-- a suspension may be forced: it fits the program, and enough numbers are left
abbrev pub MayForce : Program → Thunk → Type 0
MayForce program t = Fits program t × (top t ≤ 2 ^ 62)

-- an id of what is inside another id's suspension
pub record InnerId {I : Type 0} (t : Table I) (id inside : I) : Type 0 where
  pub belongs : t.belongs inside
  pub is : t.tree inside ≡ inner_of (t.tree id)
  pub holds : has_inner (t.tree id) ≡ true
  pub deeper : depth (t.tree id) ≡ suc (depth (t.tree inside))
  pub told : IsInner t (Some inside) id

-- the id inside an id's suspension, and none exactly where it has none
abbrev pub IsInside : {I : Type 0} → Table I → I → Option I → Type 0
IsInside t id None = (has_inner (t.tree id) ≡ false) × IsInner t None id
IsInside t id (Some inside) = InnerId t id inside
