-- What a table of suspensions stands for, and how calls change it.
use Rattle.std.specs.Prelude.{◌≡◌, ◌⊎◌, ℕ, Bool, true, false, Option, Some, None, IfSome}
use Rattle.kan_model.specs.Programs.Goals.{Program}
use Rattle.kan_model.specs.Programs.Scope.{is_small}
use Rattle.kan_model.specs.Programs.Closed as programs
use Rattle.kan_model.specs.Stores.Store as facts
use Rattle.kan_model.specs.Streams.Stream as model
use Rattle.kan_model.specs.declared.program.Program as code
use Rattle.stream_core.specs.Suspensions.{goal_in, stream, thunk, StreamBelongs, ThunkBelongs}
use Rattle.stream_core.specs.Suspensions.{Stays, ForceOf}
use Rattle.stream_core.specs.declared.streams.Thunk.{Thunk}
use Rattle.stream_core.specs.declared.streams.Stream.{Stream}

-- for which ids a stream is kept, and which id is inside the suspension of each
pub record Told (I : Type 0) : Type 0 where
  pub kept : I → Bool
  pub inner : I → Option I

-- the program, the ids that belong and the suspensions that they stand for; what is kept and how
-- many suspensions there are, where that is told
pub record Table (I : Type 0) : Type 1 where
  pub program : Program
  pub belongs : I → Type 0
  pub tree : I → model.Thunk
  pub told : Option (Told I)
  pub size : Option ℕ

module _ {I : Type 0} where
  -- a relation between what was told and what is told, where that is told
  abbrev pub BothTold : (Told I → Told I → Type 0) → Option (Told I) → Option (Told I) → Type 0
  BothTold R None None = Unit {0}
  BothTold R (Some was) (Some is) = R was is
  BothTold R None (Some is) = ⊥
  BothTold R (Some was) None = ⊥

  -- what was inside ids is inside them still
  abbrev pub InnerStays : (I → Type 0) → Told I → Told I → Type 0
  InnerStays belonged was is = (id : I) → belonged id → is.inner id ≡ was.inner id

  -- no stream more is kept; those that were kept are kept; one more is kept, for this id
  abbrev pub KeepsSame : Told I → Told I → Type 0
  KeepsSame was is = is.kept ≡ was.kept

  abbrev pub KeepsAll : Told I → Told I → Type 0
  KeepsAll was is = (id : I) → was.kept id ≡ true → is.kept id ≡ true

  abbrev pub KeepsMore : I → Told I → Told I → Type 0
  KeepsMore id was is =
      (is.kept id ≡ true) × ((other : I) → (other ≡ id) ⊎ (is.kept other ≡ was.kept other))

  -- a stream is kept for this id, and for what is inside each id for which one is kept newly
  pub record KeepsWay (belonged : I → Type 0) (id : I) (was is : Told I) : Type 0 where
    pub here : is.kept id ≡ true
    pub inside : (other inner : I) → belonged other → was.kept other ≡ false → is.kept other
        ≡ true → was.inner other ≡ Some inner → is.kept inner ≡ true

  -- a table that grew: what it stood for stays, and what is kept changed so
  pub record GrowsBy (Keeps : Told I → Told I → Type 0) (was is : Table I) : Type 0 where
    pub program : is.program ≡ was.program
    pub ids : Stays was.belongs was.tree is.belongs is.tree
    pub inner : BothTold (InnerStays was.belongs) was.told is.told
    pub kept : BothTold Keeps was.told is.told

  -- suspensions were added, and no stream was kept; or streams were kept too
  abbrev pub OnlyAdds : Table I → Table I → Type 0
  OnlyAdds = GrowsBy KeepsSame

  abbrev pub Grows : Table I → Table I → Type 0
  Grows = GrowsBy KeepsAll

  -- an id of the table that stands for a suspension
  abbrev pub StandsFor : Table I → model.Thunk → I → Type 0
  StandsFor t suspension id = t.belongs id × (t.tree id ≡ suspension)

  -- whether a stream is kept for an id, where that is told
  abbrev pub IsKept : Table I → Bool → I → Type 0
  IsKept t kept id = IfSome t.told (λ told. told.kept id ≡ kept)

  -- the id inside an id's suspension, where that is told
  abbrev pub IsInner : Table I → Option I → I → Type 0
  IsInner t inner id = IfSome t.told (λ told. told.inner id ≡ inner)

module _ {I St : Type 0} where
  -- what streams and suspensions stand for whose ids are a table's
  abbrev pub stream_in : Table I → (St → facts.Store) → Stream I St → model.Stream
  stream_in t means s = stream t.tree means s

  abbrev pub thunk_in : Table I → (St → facts.Store) → Thunk I St → model.Thunk
  thunk_in t means suspension = thunk t.tree means (goal_in t.program) suspension

  abbrev pub HasStream : Table I → Stream I St → Type 0
  HasStream t s = StreamBelongs t.belongs s

  abbrev pub HasThunk : Table I → Thunk I St → Type 0
  HasThunk t suspension = ThunkBelongs t.belongs suspension

  -- a stream of the table's ids is the force of a suspension
  abbrev pub IsForce : Table I → (St → facts.Store) → model.Thunk → Stream I St → Type 0
  IsForce t means suspension s = ForceOf t.belongs t.tree means t.program suspension s

-- the table's suspensions are of a program of the code, which is small
pub record IsTableOf {I : Type 0} (p : code.Program) (t : Table I) : Type 0 where
  pub program : t.program ≡ programs.meaning p
  pub small : is_small (programs.meaning p) ≡ true
