-- Rows of suspensions and the streams that are kept for them, and which ids stand for suspensions
-- whose rows are in order.
use Rattle.std.specs.Prelude.{ℕ, zero, suc, Bool, false, List, [], ◌∷◌, map, Option, None}
use Rattle.std.specs.Prelude.{slice_get, is_some, IfSome}
use Rattle.kan_model.specs.Programs.Goals.{Program}
use Rattle.kan_model.specs.Stores.Store as facts
use Rattle.kan_model.specs.Streams.Stream as model
use Rattle.kan_model.specs.Streams.Bounds.{Fits}
use Rattle.stream_core.specs.Suspensions.{inner_id, ThunkBelongs, ForceOf}
use Rattle.stream_core.specs.TableKinds.PlainTrees.{is_placed, grown_tree}
use Rattle.stream_core.specs.declared.streams.Thunk.{Thunk}
use Rattle.stream_core.specs.declared.plain_nodes.PlainId.{PlainId}
use Rattle.stream_core.specs.declared.plain_nodes.Row.{Row}

-- the suspensions of rows
abbrev pub thunks : {St : Type 0} → List (Row St) → List (Thunk PlainId St)
thunks rows = map (λ row. row.thunk) rows

-- whether a stream is kept at a place
abbrev pub is_kept_at : {St : Type 0} → List (Row St) → ℕ → Bool
is_kept_at [] i = false
is_kept_at (row ∷ rows) zero = is_some row.kept
is_kept_at (row ∷ rows) (suc i) = is_kept_at rows i

-- the id inside the suspension at a place
abbrev pub inner_at : {St : Type 0} → List (Row St) → ℕ → Option PlainId
inner_at [] i = None
inner_at (row ∷ rows) zero = inner_id row.thunk
inner_at (row ∷ rows) (suc i) = inner_at rows i

module _ {St : Type 0} (means : St → facts.Store) (program : Program) where
  -- the tree that an id stands for
  abbrev pub row_tree : List (Row St) → PlainId → model.Thunk
  row_tree rows = grown_tree means program (thunks rows)

  -- the ids in a row belong, and the stream that it keeps is the force of its tree
  abbrev pub RowIsSound : (PlainId → Type 0) → (PlainId → model.Thunk) → model.Thunk → Row St →
      Type 0
  RowIsSound belongs tree t row =
      ThunkBelongs belongs row.thunk × IfSome row.kept (ForceOf belongs tree means program t)

  -- an id is placed and its tree fits, and so is all that is reached from it in so many steps, by
  -- the ids in suspensions and in kept streams
  abbrev pub IsSound : ℕ → List (Row St) → PlainId → Type 0
  IsSound zero rows id = is_placed (thunks rows) id × Fits program (row_tree rows id)
  IsSound (suc n) rows id =
      is_placed (thunks rows) id × Fits program (row_tree rows id)
      × IfSome (slice_get rows id.at)
      (RowIsSound (IsSound n rows) (row_tree rows) (row_tree rows id))

  -- an id belongs where all that is reached from it is sound
  abbrev pub BelongsTo : List (Row St) → PlainId → Type 0
  BelongsTo rows id = (n : ℕ) → IsSound n rows id
